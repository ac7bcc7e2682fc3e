-- A refusal of the checks is told on; else the centralizer is written.
use Rattle.std.proofs.Common.{ℕ, List, length, ap, ◌∙◌}
use Rattle.pauli.specs.Condense.{list_of}
use Rattle.pauli.specs.Refusals.{told_of}
use Rattle.pauli.specs.Told.{Told}
use Rattle.pauli.specs.Writing.{told_bytes, left_in}
use Rattle.pauli.proofs.refusal.HandedOn.{handed_on}
use Rattle.pauli.proofs.roll.ListSupport.{support_rises}
use Rattle.centralizer.proofs.calls.CheckedLaws.{not_fitting, no_room, room, refused_told, refused_left, refused_area, answer_is, answer_area}
use Rattle.centralizer.proofs.calls.centralize.Goals as goal

pub check_named-requires : goal.check_named-requires
check_named-requires c = rw c.requires (support_rises (list_of c.args.roll.bytes.now))

pub returns-in_err-check_named : goal.returns-in_err-check_named
returns-in_err-check_named c =
    let a = c.args in
    let ps = list_of a.roll.bytes.now in
    let e = not_fitting a.named.now a.own.now ps c.requires (length a.work.now) c.in_err-check_named.ensures.told in
    record {
      told = ap told_of (handed_on _ _ c.from_residual.ensures.1) ∙ refused_told a.named.now ps a.work.now a.out.now e;
      left = refused_left a.named.now ps a.work.now a.out.now e;
      area = refused_area a.named.now ps a.work.now a.out.now e;
    }

pub returns-in_err-check_area : goal.returns-in_err-check_area
returns-in_err-check_area c =
    let a = c.args in
    let ps = list_of a.roll.bytes.now in
    let e = no_room a.named.now a.own.now ps c.requires (length a.work.now) c.in_ok-check_named.ensures.told c.in_err-check_area.ensures.told in
    record {
      told = ap told_of (handed_on _ _ c.from_residual-in_err-check_area.ensures.1) ∙ refused_told a.named.now ps a.work.now a.out.now e;
      left = refused_left a.named.now ps a.work.now a.out.now e;
      area = refused_area a.named.now ps a.work.now a.out.now e;
    }

pub returns : goal.returns
returns c =
    let a = c.args in
    let ps = list_of a.roll.bytes.now in
    let large = c.in_ok-check_area.ensures.room in
    let e = room a.named.now a.own.now ps c.requires (length a.work.now) c.in_ok-check_named.ensures.told large in
    let same = answer_is a.named.now ps a.work.now a.out.now e in
    let wrote = rw c.area_of.ensures.value at c.write_centralizer.ensures in
    record {
      told = wrote.told ∙ ap (λ (t : Told (List ℕ)). told_bytes t a.out.now) same;
      left = wrote.left ∙ ap (λ (t : Told (List ℕ)). left_in t a.out.now) same;
      area = answer_area a.named.now ps a.work.now a.out.now e _ large wrote.area;
    }
