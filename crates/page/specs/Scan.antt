-- What the walks over a page's bytes say of the part they walk. No refusal is stated by these: they stand between the code and the list.
use Rattle.std.specs.Prelude.{Bool, ◌&&◌, List, [], ◌∷◌, ℕ, zero, suc, ◌+◌}
use Rattle.lpod.specs.Lists.{every}
use Rattle.lpod.specs.Rule.{Pair}
use Rattle.page.specs.Fields.{byte_at}
use Rattle.page.specs.Refusals.{in_order, all_apart}

-- n bytes from place i on, each `step` places after the one before: a list of literals by 1, the first members of pairs by 2
unfoldable pub spaced : List ℕ → ℕ → ℕ → ℕ → List ℕ
spaced page step i zero = []
spaced page step i (suc n) = byte_at page i ∷ spaced page step (i + step) n

-- each pair is in order, and no atom stands in two
unfoldable pub pairs_hold : List Pair → Bool
pairs_hold Q = every in_order Q && all_apart Q
