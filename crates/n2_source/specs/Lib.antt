pub mod Cursors
pub mod Lists
pub mod Mnemonics
pub mod Numbers
pub mod Operands
