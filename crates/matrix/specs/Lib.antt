pub mod Places
pub mod Sets
pub mod Models
