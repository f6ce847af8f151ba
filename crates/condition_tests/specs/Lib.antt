pub mod TwoPermits
