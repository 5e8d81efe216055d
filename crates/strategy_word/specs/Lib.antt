pub mod Strategy
