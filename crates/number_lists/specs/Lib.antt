pub mod Distinct
pub mod inside
pub mod KeyedLists
pub mod Members
pub mod Rising
pub mod RisingOrder
