-- What the functions that read a level promise.
use Rattle.std.specs.Prelude.{List, ℕ, Option, option_map}
use Rattle.combined_lists.specs.Reader.{Job, reading}

-- the bytes that follow what is read, if it is there
unfoldable pub rest_after : Job → List ℕ → Option (List ℕ)
rest_after j l = option_map (λ r. r.1) (reading j l)
