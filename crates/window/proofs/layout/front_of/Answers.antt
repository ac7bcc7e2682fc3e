-- The library's first chunk.
use Rattle.std.proofs.Common.{refl}
use Rattle.window.specs.Layout.{front}
use Rattle.window.proofs.layout.front_of.Goals as goal

pub returns : goal.returns
unfolding front
returns c = ((refl, λ w. refl), record { writes_back = tt; value = (rw c.unwrap.ensures at c.first_chunk_mut.ensures.cases).same })
