pub mod Reports
pub mod Plans
pub mod Replies
pub mod Running
pub mod Printed
