pub mod KeyBlocks
pub mod KeyFields
