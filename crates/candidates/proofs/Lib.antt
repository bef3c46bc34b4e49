pub mod AddsLemmas
pub mod StatsLemmas
pub mod GroupLemmas
pub mod ListLemmas
pub mod Normal
pub mod SumLemmas
pub mod WithinLemmas
