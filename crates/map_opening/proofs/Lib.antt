pub mod NestedLists
pub mod KeyedRings
pub mod FilledLists
pub mod LaidRings
pub mod LaidSides
pub mod OpenedTables
pub mod FlatLists
