pub mod Finding
pub mod Laying
pub mod Imaging
pub mod StagingOne
pub mod StagingAll
pub mod Sorting
pub mod Written
pub mod LaidOut
