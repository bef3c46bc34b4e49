mod ConceptLemmas
mod GroupLemmas
mod LineLemmas
mod ListLemmas
