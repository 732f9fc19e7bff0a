pub mod DescribeSecretLemmas
pub mod GetSecretValueLemmas
