pub mod Printed
pub mod Networks
pub mod Answering
