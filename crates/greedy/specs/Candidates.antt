-- What the candidates have, as the lists that the choice is said by. Assumes nothing: these are definitions.
use Rattle.std.specs.Prelude.{ℕ, List, map}
use Rattle.hierarchy.specs.declared.levels.Levels.{Levels}
use Rattle.greedy.specs.declared.by_sizes.Candidate.{Candidate}

abbrev pub all_levels_of : List Candidate → List Levels
all_levels_of xs = map (λ (x : Candidate). x.levels) xs

abbrev pub sizes_of : List Candidate → List ℕ
sizes_of xs = map (λ (x : Candidate). x.size) xs

abbrev pub costs_of : List Candidate → List ℕ
costs_of xs = map (λ (x : Candidate). x.cost) xs
