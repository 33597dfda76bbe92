pub mod Ids
pub mod Lists
pub mod Matches
pub mod OneAnswer
pub mod Printed
pub mod RoundTrip
pub mod Slots
pub mod Tables
