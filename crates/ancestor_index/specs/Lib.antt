pub mod Complete
pub mod HierarchyLists
pub mod inside
pub mod Wide
