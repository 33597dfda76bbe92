pub mod Cutting
pub mod Keys
pub mod Printed
pub mod Routes
pub mod Table
pub mod Tested
