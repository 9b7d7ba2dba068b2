pub use Rattle.quic_values.specs.Numbers
pub use Rattle.quic_values.specs.Ids
pub use Rattle.quic_ranges.specs.Runs
pub mod Codes
pub mod Frames
pub mod Text
pub mod Reading
