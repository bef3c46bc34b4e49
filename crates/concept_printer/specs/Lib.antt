pub mod ConceptText
pub mod inside
pub mod NamedConcept
