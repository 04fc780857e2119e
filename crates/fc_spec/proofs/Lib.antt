pub mod words
pub mod documents
pub mod dates
pub mod queries
pub mod requests
pub mod replies
pub mod messages
pub mod scripts
