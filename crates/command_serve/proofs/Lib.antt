pub mod TraceSinkLemmas
pub mod ServeLemmas
pub mod CameLemmas
pub mod LawLemmas
pub mod KeptLemmas
pub mod PanelWholeLemmas
pub mod WholeLemmas
