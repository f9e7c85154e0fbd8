mod Fitting
mod Gathering
mod Given
mod Marking
mod Rows
mod VoteCounting
