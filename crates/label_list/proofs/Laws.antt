-- The lemma that other crates cite: on a loop over the parts of a list.
pub use Rattle.label_list.proofs.Lists.{labels_left}
