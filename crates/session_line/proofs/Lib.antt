mod RequestLemmas
