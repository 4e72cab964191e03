pub mod Journals
pub mod Texts
pub mod Reading
pub mod Cursors
