pub mod Counts
pub mod Laws
pub mod LevelLaws
pub mod Sets
pub mod TreeChoices
pub mod TreeFamilies
pub mod TreeLaws
pub mod VoteLaws
