-- What the call's answer tells.
use Rattle.factorizations.specs.declared.answers.Results.{Results}
use Rattle.factorizations.specs.Calls.{Totals}

-- the count and the bytes that the code holds
abbrev pub totals_in : Results → Totals
totals_in r = record { count = r.count; bytes = r.bytes }
