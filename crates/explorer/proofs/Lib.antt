mod LaidLemmas
