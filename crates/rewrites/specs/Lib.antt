pub mod Counts
pub mod Faults
pub mod inside
pub mod PlanLists
pub mod Rules
pub mod RulesAtPlaces
pub mod Simplified
pub mod Steps
