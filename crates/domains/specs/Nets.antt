-- Nets whose registers fit their graph.
pub use Rattle.cell_graph.specs.Nets.{is_register, register_signals, IsNet}
