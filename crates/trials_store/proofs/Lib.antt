pub mod NothingLaid
