pub mod Words
pub mod documents
pub mod dates
pub mod queries
pub mod scripts
pub mod messages
pub mod replies
pub mod requests
