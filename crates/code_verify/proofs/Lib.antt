pub mod ShortCode
