mod FaultLemmas
mod KeptLemmas
mod LineLemmas
mod RunLemmas
