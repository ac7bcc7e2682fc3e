-- Paulis over the places of a support, as the code holds them: a set of at most 128 places in two words.
use Rattle.std.specs.Prelude.{ℕ, zero, suc, ◌+◌, ◌*◌, ◌%◌, ◌^◌, List, [], ◌∷◌, slice_index}
use Rattle.binar.specs.Row.{◌⊕◌, dot}
use Rattle.pauli.specs.declared.signed.Pauli.{Pauli as Held}
use Rattle.pauli.specs.Pauli.{Pauli, I, select}
use Rattle.pauli.specs.PlaceSet.{set_in}

-- the Pauli that is held, over places
unfoldable pub held : Held → Pauli
held p = record { e = p.exponent; x = set_in p.x; z = set_in p.z }

-- the Pauli whose five words start at word i: the exponent, and the words of x and of z
unfoldable pub pauli_in : List ℕ → ℕ → Pauli
pauli_in l i = record {
  e = slice_index l i;
  x = slice_index l (i + 2) * 2 ^ 64 + slice_index l (i + 1);
  z = slice_index l (i + 4) * 2 ^ 64 + slice_index l (i + 3);
}

-- the five words that a Pauli is written as
unfoldable pub pauli_words : Held → List ℕ
pauli_words p = p.exponent % 4 ∷ p.x.low ∷ p.x.high ∷ p.z.low ∷ p.z.high ∷ []

-- the n Paulis from word i on
unfoldable pub list_in : List ℕ → ℕ → ℕ → List Pauli
list_in l i zero = []
list_in l i (suc n) = pauli_in l i ∷ list_in l (i + 5) n

-- the Paulis of a list of fives of words
unfoldable pub paulis_in : List (List ℕ) → List Pauli
paulis_in [] = []
paulis_in (l ∷ ls) = pauli_in l 0 ∷ paulis_in ls

-- ---- exponents as they are stored

-- "The stored exponent is eight bits and wraps at 256"
unfoldable pub stored : Pauli → Pauli
stored p = record { e = p.e % 256; x = p.x; z = p.z }

-- the product with (f, u, v) as it is stored: "exponent e + f, plus 2 if z and u share an odd number of qubits", which wraps
unfoldable pub times_stored : Pauli → Pauli → Pauli
times_stored p q = record { e = (p.e + q.e + 2 * dot p.z q.x) % 256; x = p.x ⊕ q.x; z = p.z ⊕ q.z }

-- "multiplied from the right by each in turn", each product as it is stored
unfoldable pub stored_from : Pauli → List Pauli → Pauli
stored_from p [] = p
stored_from p (q ∷ qs) = stored_from (times_stored p q) qs

-- the product of the generators with these indexes, as it is stored
unfoldable pub product_stored : ℕ → List Pauli → Pauli
product_stored s gs = stored_from I (select s gs)
