pub mod Tables
pub mod Numbers
pub mod Networks
pub mod Answering
pub mod Learning
pub mod Decoding
pub mod Said
pub mod NoAdvice
