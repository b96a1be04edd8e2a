pub mod Nodes
pub mod Contract
pub mod Laws
