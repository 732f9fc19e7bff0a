pub mod DescribeSecret
pub mod GetSecretValue
