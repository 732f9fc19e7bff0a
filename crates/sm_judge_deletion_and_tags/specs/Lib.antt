pub mod DeleteSecret
pub mod RestoreSecret
pub mod TagResource
pub mod UntagResource
