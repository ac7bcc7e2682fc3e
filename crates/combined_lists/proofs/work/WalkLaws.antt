-- How a level is worked out, step by step.
use Rattle.std.proofs.Common.{◌≡◌, ℕ, zero, suc, ◌+◌, ◌-◌, ◌*◌, ◌≤◌, ◌<◌, Bool, true, false, Option, Some, None, List, ◌∷◌, ◌++◌, length, sym, refl, ap, ◌∙◌, arith}
use Rattle.std.specs.Prelude.{option_and_then, ◌&&◌}
use Rattle.std.specs.Option.{option_map_or}
use Rattle.std.proofs.lemmas.Option.{option_and_then_some, some_pair_parts}
use Rattle.std.proofs.lemmas.List.Folds.{list_all-append}
use Rattle.pauli.specs.Told.{Told, answer, refused, and_then}
use Rattle.combined_lists.specs.Line.{Sign, quotient, common, joined, Tree, letter, parens, operation, byte_of, bytes_of, rank, Binds, deepest, byte_sent, bytes_sent}
use Rattle.combined_lists.specs.Reader.{after, closed, Job, atom, level, more, below, read, reading}
use Rattle.combined_lists.specs.Work.{value_of, slots}
use Rattle.combined_lists.specs.Inner.Worked.{waits, Ready, Kept, Worked, Loaded, Operated, Refuses}
use Rattle.combined_lists.proofs.form.Steps.{after_some, WasLetter, letter_some, closed_some, below_falls, falls, atom_reading, level_reading, more_reading}
use Rattle.combined_lists.proofs.form.ReadOnly.{was, operand_was}
use Rattle.combined_lists.proofs.sent.SentLaws.{letter_sent}
use Rattle.combined_lists.proofs.sent.DepthLaws.{at_least, deepest_of, next_deep, same_deep, opens, sign_deep}

second : (a b : Bool) → (a && b) ≡ true → b ≡ true
second true b q = q
second false b q = absurd (cc)

pub waits_below : (k : Sign) → waits (below k) + 1 ≡ rank k
waits_below quotient = refl
waits_below common = refl
waits_below joined = refl

-- ---- what follows a tree is no deeper, and its letters were sent

module _ (s : Sign) (l : List ℕ) (t : Tree) (rest : List ℕ) (e : reading (below s) l ≡ Some (t, rest)) where
  split : Binds t × (l ≡ bytes_of t ++ rest)
  unfolding reading
  split = let w = operand_was s l t rest (was (4 * length l + 4) (below s) l t rest e) in (w.0, w.2)

  no_deeper : (d : ℕ) → deepest d rest ≤ deepest d l
  no_deeper d = let q = ap (deepest d) split.1 in omega (arith, deepest_of t d rest split.0)

  still_sent : (sent : ℕ → Bool) → bytes_sent sent l ≡ true → bytes_sent sent rest ≡ true
  still_sent sent h =
      second (bytes_sent sent (bytes_of t)) (bytes_sent sent rest)
      (sym (list_all-append (byte_sent sent) (bytes_of t) rest) ∙ sym (ap (bytes_sent sent) split.1) ∙ h)

-- ---- a level's first operand

module _ {sent : ℕ → Bool} (s : Sign) (l : List ℕ) (top : ℕ) (ready : Ready sent (level s) l top) where
  -- what it reads first, and what it goes on with
  parts : (u : Tree) × (m : List ℕ) × (reading (below s) l ≡ Some (u, m)) × (reading (more s u) m ≡ Some (ready.tree, ready.rest))
  parts = option_and_then_some _ _ _ (sym (level_reading s l) ∙ ready.reads) (λ p x y. (p.0, p.1, x, y))

  pub ready_first : Ready sent (below s) l top
  ready_first =
      let p = parts in
      record {
        depth = ready.depth;
        tree = p.0;
        rest = p.1;
        reads = p.2;
        named = ready.named;
        low = omega (arith, ready.low, waits_below s);
        shallow = ready.shallow;
      }

-- a refusal of the left operand is that of the whole
spine : {A : Type 0} (op : Sign → A → A → Told A) (rolls : ℕ → A) (n p f : ℕ) (s : Sign) (u : Tree) (m : List ℕ) (t : Tree) (r : List ℕ)
    → read f (more s u) m ≡ Some (t, r) → value_of op rolls u ≡ refused n p → value_of op rolls t ≡ refused n p
unfolding read value_of and_then
spine op rolls n p zero s u m t r e h = absurd (cc)
spine op rolls n p (suc f) s u m t r e h = go (after (byte_of s) m) e (λ v k d. spine op rolls n p f s (operation s u v) k t r d (rw h))
  where
    go : (o : Option (List ℕ))
        → option_map_or (λ right. option_and_then (λ q. read f (more s (operation s u q.0)) q.1) (read f (below s) right)) o (Some (u, m)) ≡ Some (t, r)
        → ((v : Tree) (k : List ℕ) → read f (more s (operation s u v)) k ≡ Some (t, r) → value_of op rolls t ≡ refused n p)
        → value_of op rolls t ≡ refused n p
    go None d rest = rw (← (some_pair_parts u t m r d).0) h
    go (Some right) d rest = option_and_then_some {A = Tree × List ℕ} _ _ _ d (λ q x y. rest q.0 q.1 y)

module _ {A : Type 0} {op : Sign → A → A → Told A} {rolls : ℕ → A} (s : Sign) (l : List ℕ) (t : Tree) (r : List ℕ)
    (reads : reading (level s) l ≡ Some (t, r)) where
  -- a level that has come to a refused tree is refused
  refuses_on : (n p : ℕ) (u : Tree) (rest : List ℕ)
      → reading (level s) l ≡ reading (more s u) rest → value_of op rolls u ≡ refused n p → Refuses op rolls (level s) l n p
  unfolding reading
  refuses_on n p u rest goes told =
      record { tree = t; rest = r; reads = reads; told = spine op rolls n p (4 * length rest + 4) s u rest t r (sym goes ∙ reads) told }

  pub first_refuses : (n p : ℕ) → Refuses op rolls (below s) l n p → Refuses op rolls (level s) l n p
  first_refuses n p first = refuses_on n p first.tree first.rest (rw (level_reading s l, first.reads)) first.told

-- what is left of a level, when its left operand is in the slot; w₀ is what it began with
pub record Going {A W : Type 0} (op : Sign → A → A → Told A) (rolls : ℕ → A) (Holds : W → ℕ → A → Type 0) (sent : ℕ → Bool)
    (s : Sign) (l : List ℕ) (top : ℕ) (rest : List ℕ) (w₀ w : W) : Type 0 where
  pub left : Tree
  pub value : A
  pub goes : reading (level s) l ≡ reading (more s left) rest
  pub ready : Ready sent (more s left) rest top
  pub told : value_of op rolls left ≡ answer value
  pub holds : Holds w top value
  pub kept : Kept Holds top w₀ w
  pub shorter : length rest < length l

module _ {A W : Type 0} {op : Sign → A → A → Told A} {rolls : ℕ → A} {Holds : W → ℕ → A → Type 0} {sent : ℕ → Bool} (s : Sign) (l : List ℕ) (top : ℕ) where
  pub begins : Ready sent (level s) l top → (rest : List ℕ) (w₀ w : W)
      → Worked op rolls Holds (below s) l rest top w₀ w → Going op rolls Holds sent s l top rest w₀ w
  begins ready rest w₀ w first =
      let goes : reading (level s) l ≡ reading (more s first.tree) rest = rw (level_reading s l, first.reads) in
      record {
        left = first.tree;
        value = first.value;
        goes = goes;
        ready = record {
          depth = ready.depth;
          tree = ready.tree;
          rest = ready.rest;
          reads = sym goes ∙ ready.reads;
          named = still_sent s l first.tree rest first.reads sent ready.named;
          low = ready.low;
          shallow = omega (arith, ready.shallow, no_deeper s l first.tree rest first.reads ready.depth);
        };
        told = first.told;
        holds = first.holds;
        kept = first.kept;
        shorter = below_falls s _ _ (falls (below s) l first.tree rest first.reads);
      }

  module _ (rest : List ℕ) (w₀ w : W) (going : Going op rolls Holds sent s l top rest w₀ w) where
    -- a level that ends
    pub ends : None ≡ after (byte_of s) rest → Worked op rolls Holds (level s) l rest top w₀ w
    ends e = record {
      tree = going.left;
      value = going.value;
      reads = going.goes ∙ rw (more_reading s going.left rest, ← e);
      told = going.told;
      holds = going.holds;
      kept = going.kept;
    }

    -- a sign, and what follows it
    module _ (right : List ℕ) (sign : Some right ≡ after (byte_of s) rest) where
      by_sign : rest ≡ byte_of s ∷ right
      by_sign = after_some (byte_of s) rest right (sym sign)

      right_parts : (v : Tree) × (m : List ℕ) × (reading (below s) right ≡ Some (v, m))
          × (reading (more s (operation s going.left v)) m ≡ Some (going.ready.tree, going.ready.rest))
      right_parts =
          let e : option_and_then (λ p. reading (more s (operation s going.left p.0)) p.1) (reading (below s) right)
          ≡ Some (going.ready.tree, going.ready.rest) =
          rw (more_reading s going.left rest, ← sign) at going.ready.reads in
          option_and_then_some _ _ _ e (λ p x y. (p.0, p.1, x, y))

      no_deeper_right : (d : ℕ) → deepest d right ≡ deepest d rest
      no_deeper_right d = sym (ap (deepest d) by_sign ∙ same_deep d (byte_of s) right (sign_deep d s))

      right_sent : bytes_sent sent right ≡ true
      right_sent = second (byte_sent sent (byte_of s)) (bytes_sent sent right) (sym (ap (bytes_sent sent) by_sign) ∙ going.ready.named)

      pub ready_right : Ready sent (below s) right (top + 1)
      ready_right =
          let p = right_parts in
          record {
            depth = going.ready.depth;
            tree = p.0;
            rest = p.1;
            reads = p.2;
            named = right_sent;
            low = omega (arith, going.ready.low, waits_below s);
            shallow = omega (arith, going.ready.shallow, no_deeper_right going.ready.depth);
          }

      -- the reading goes on from the operation on both operands
      goes_on : (v : Tree) (next : List ℕ) → reading (below s) right ≡ Some (v, next) → reading (level s) l ≡ reading (more s (operation s going.left v)) next
      goes_on v next e = going.goes ∙ rw (more_reading s going.left rest, ← sign, e)

      level_reads : reading (level s) l ≡ Some (going.ready.tree, going.ready.rest)
      level_reads = going.goes ∙ going.ready.reads

      pub right_refuses : (n p : ℕ) → Refuses op rolls (below s) right n p → Refuses op rolls (level s) l n p
      unfolding value_of and_then
      right_refuses n p r =
          refuses_on s l going.ready.tree going.ready.rest level_reads n p (operation s going.left r.tree) r.rest
          (goes_on r.tree r.rest r.reads) (rw (going.told, r.told))

      -- the right operand is in the next slot
      module _ (next : List ℕ) (w₁ : W) (operand : Worked op rolls Holds (below s) right next (top + 1) w w₁) where
        pub left_holds : Holds w₁ top going.value
        left_holds = operand.kept top going.value (omega arith) going.holds

        pub right_falls : length next < length right
        right_falls = below_falls s _ _ (falls (below s) right operand.tree next operand.reads)

        both_told : value_of op rolls (operation s going.left operand.tree) ≡ op s going.value operand.value
        unfolding value_of and_then
        both_told = rw (going.told, operand.told)

        pub call_refuses : (n p : ℕ) → op s going.value operand.value ≡ refused n p → Refuses op rolls (level s) l n p
        call_refuses n p told =
            refuses_on s l going.ready.tree going.ready.rest level_reads n p (operation s going.left operand.tree) next
            (goes_on operand.tree next operand.reads) (both_told ∙ told)

        pub turns : (w₂ : W) → Operated op Holds s going.value operand.value top w₁ w₂ → Going op rolls Holds sent s l top next w₀ w₂
        turns w₂ called =
            record {
              left = operation s going.left operand.tree;
              value = called.value;
              goes = goes_on operand.tree next operand.reads;
              ready = record {
                depth = going.ready.depth;
                tree = going.ready.tree;
                rest = going.ready.rest;
                reads = sym (goes_on operand.tree next operand.reads) ∙ level_reads;
                named = still_sent s right operand.tree next operand.reads sent right_sent;
                low = going.ready.low;
                shallow =
                    omega (arith, going.ready.shallow, no_deeper_right going.ready.depth, no_deeper s right operand.tree next operand.reads going.ready.depth);
              };
              told = both_told ∙ called.told;
              holds = called.holds;
              kept = λ i a h k. called.kept i a h (operand.kept i a (omega arith) (going.kept i a h k));
              shorter = omega (arith, going.shorter, ap length by_sign, right_falls);
            }

-- ---- slots

-- a job's slots are there
pub slots_fit : {sent : ℕ → Bool} (j : Job) (l : List ℕ) (top : ℕ) → Ready sent j l top → top + waits j < slots
slots_fit j l top ready = omega (arith, ready.low, ready.shallow, at_least ready.depth l)

-- ---- an atom

module _ {sent : ℕ → Bool} (l : List ℕ) (top : ℕ) (ready : Ready sent atom l top) where
  module _ (inner : List ℕ) (parenthesis : Some inner ≡ after 40 l) where
    by_parenthesis : l ≡ 40 ∷ inner
    by_parenthesis = after_some 40 l inner (sym parenthesis)

    -- what stands in the parentheses, and what follows them
    inner_parts : (u : Tree) × (m : List ℕ) × (reading (level joined) inner ≡ Some (u, m)) × (m ≡ 41 ∷ ready.rest) × (ready.tree ≡ parens u)
    inner_parts =
        let e : option_and_then closed (reading (level joined) inner) ≡ Some (ready.tree, ready.rest) = rw (atom_reading l, ← parenthesis) at ready.reads in
        option_and_then_some _ _ _ e (λ p x y. let c = closed_some p.0 p.1 ready.tree ready.rest y in (p.0, p.1, x, c.0, c.1))

    pub ready_inner : Ready sent (level joined) inner top
    ready_inner =
        let p = inner_parts in
        let deep = ap (deepest ready.depth) by_parenthesis ∙ next_deep ready.depth 40 (ready.depth + 1) inner (opens ready.depth 40 refl) in
        record {
          depth = ready.depth + 1;
          tree = p.0;
          rest = p.1;
          reads = p.2;
          named = second (byte_sent sent 40) (bytes_sent sent inner) (sym (ap (bytes_sent sent) by_parenthesis) ∙ ready.named);
          low = omega (arith, ready.low);
          shallow = omega (arith, ready.shallow);
        }

    -- whatever is read there is in parentheses
    inner_same : (u : Tree) (m : List ℕ) → reading (level joined) inner ≡ Some (u, m) → (m ≡ 41 ∷ ready.rest) × (reading atom l ≡ Some (parens u, ready.rest))
    inner_same u m e =
        let p = inner_parts in
        let d = some_pair_parts p.0 u p.1 m (sym p.2 ∙ e) in
        (sym d.1 ∙ p.3, ready.reads ∙ ap (λ (t : Tree). Some (t, ready.rest)) (p.4 ∙ ap parens d.0))

    pub inner_refuses : {A : Type 0} {op : Sign → A → A → Told A} {rolls : ℕ → A} (n p : ℕ)
        → Refuses op rolls (level joined) inner n p → Refuses op rolls atom l n p
    unfolding value_of
    inner_refuses n p r = record { tree = parens r.tree; rest = ready.rest; reads = (inner_same r.tree r.rest r.reads).1; told = r.told }

    -- a parenthesis is left, and what follows it
    module _ {A W : Type 0} {op : Sign → A → A → Told A} {rolls : ℕ → A} {Holds : W → ℕ → A → Type 0} (m : List ℕ) (w w' : W)
        (inside : Worked op rolls Holds (level joined) inner m top w w') where
      pub inner_left : m ≡ 41 ∷ ready.rest
      inner_left = (inner_same inside.tree m inside.reads).0

      pub inner_worked : Worked op rolls Holds atom l ready.rest top w w'
      unfolding value_of
      inner_worked = record {
        tree = parens inside.tree;
        value = inside.value;
        reads = (inner_same inside.tree m inside.reads).1;
        told = inside.told;
        holds = inside.holds;
        kept = inside.kept;
      }

  module _ (other : None ≡ after 40 l) where
    pub was_letter : WasLetter l ready.tree ready.rest
    was_letter = letter_some l ready.tree ready.rest (rw (atom_reading l, ← other) at ready.reads)

    pub named_sent : sent (was_letter.byte - 65) ≡ true
    named_sent =
        let w = was_letter in
        sym (letter_sent sent w.byte w.low w.high)
        ∙ first (byte_sent sent w.byte) (bytes_sent sent ready.rest) (sym (ap (bytes_sent sent) w.first) ∙ ready.named)
      where
        first : (a b : Bool) → (a && b) ≡ true → a ≡ true
        first true b q = refl
        first false b q = absurd (cc)

    pub letter_worked : {A W : Type 0} (op : Sign → A → A → Told A) {rolls : ℕ → A} {Holds : W → ℕ → A → Type 0} (w w' : W)
        → Loaded rolls Holds (was_letter.byte - 65) top w w' → Worked op rolls Holds atom l ready.rest top w w'
    unfolding value_of
    letter_worked op {rolls} w w' loaded = record {
      tree = letter (was_letter.byte - 65);
      value = rolls (was_letter.byte - 65);
      reads = ready.reads ∙ ap (λ (t : Tree). Some (t, ready.rest)) was_letter.names;
      told = refl;
      holds = loaded.holds;
      kept = loaded.kept;
    }
