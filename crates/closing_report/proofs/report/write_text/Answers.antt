-- The refusals in their order, then the text.
use mathlib.Core.Path.{sym}
use Rattle.closing_report.proofs.input.InputLaws.{parted}
use Rattle.closing_report.proofs.report.CallLaws.{input_refused, generators_refused, elements_refused, both_accepted, text_written}
use Rattle.closing_report.proofs.report.write_text.Goals as goal

pub returns-in_default : goal.returns-in_default
returns-in_default c =
    let wrote = c.write_cut.ensures in
    let all = text_written _ _ (input_refused _ _ _ (sym c.in_default.ensures.rolls)) wrote.told wrote.left in
    record { told = all.0; left = all.1 }

pub returns-in-Err : goal.returns-in-Err
returns-in-Err c =
    let told = c.split_input.ensures in
    let parts = parted _ _ told.rolls told.within _ c.in-Some.is in
    let generators = sym c.in-Err.ensures.count in
    let wrote = c.write_refused.ensures in let all = text_written _ _ (generators_refused _ _ parts.rolls _ _ generators) wrote.told wrote.left in record { told = all.0; left = all.1 }

pub returns-in-Err-read : goal.returns-in-Err-read
returns-in-Err-read c =
    let told = c.split_input.ensures in
    let parts = parted _ _ told.rolls told.within _ c.in-Some.is in
    let generators = sym c.in-Ok.ensures.count in
    let elements = sym c.in-Err-read.ensures.count in
    let wrote = c.write_refused-in-Err-read.ensures in let all = text_written _ _ (elements_refused _ _ parts.rolls _ generators _ _ elements) wrote.told wrote.left in record { told = all.0; left = all.1 }

pub returns : goal.returns
returns c =
    let told = c.split_input.ensures in
    let parts = parted _ _ told.rolls told.within _ c.in-Some.is in
    let generators = sym c.in-Ok.ensures.count in
    let elements = sym c.in-Ok-read.ensures.count in
    let wrote = rw (c.in-Ok.ensures.bytes, c.in-Ok-read.ensures.bytes) at c.write_report.ensures in let all = text_written _ _ (both_accepted _ _ parts.rolls _ generators _ elements) wrote.told wrote.left in record { told = all.0; left = all.1 }
