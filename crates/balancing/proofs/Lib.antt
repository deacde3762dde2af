-- Why the scan of nets and delivered lots is the definition.
pub mod RowLaws
pub mod EvenLaws
