use Rattle.map_index.proofs.Common.{◌∙◌, sym, arith}
use Rattle.std.proofs.lemmas.Bool.{leb-true}
use Rattle.map_index.proofs.index.MapIndex.fits.Goals as goal
use Rattle.map_index.proofs.index.MapIndex.fits.Goals.{then-origin-le1, else-origin-le1, then-is_new, else-is_new}

pub returns-then-has_room : goal.returns-then-has_room
returns-then-has_room c =
    rw c.in-S.is
    (elim c.if-is_new.branch [
      | then-is_new a ↦
          elim c.if-origin-le1.branch [
            | then-origin-le1 b ↦ (
              (λ h.
                  let new = b.is_new.ensures.0 (sym b.value-is ∙ a.if-is_new.true) in
                  let room = a.has_room.ensures.0 (sym a.value-is ∙ c.if-has_room.true) in
                  let names = (rw c.as_slice.ensures at c.can_name.ensures).0 h in
                  record { known_origin = b.if-origin-le1.true; uid_number = new.0; uid_new = new.1; region = room; guid_new = new.2; known = names.0; earlier = names.1 }),
              (λ p. (rw c.as_slice.ensures at c.can_name.ensures).1 (p.known, p.earlier)),
            )
            | else-origin-le1 b ↦ absurd (let f = sym b.value-is ∙ a.if-is_new.true in let g = b.if-origin-le1.false in omega (arith, leb-true _ _ f, g))
          ]
      | else-is_new a ↦ absurd (let f = sym a.value-is ∙ c.if-has_room.true in let g = a.if-is_new.false in cc (f, g))
    ])

pub returns-in-D : goal.returns-in-D
returns-in-D c = rw c.in-D.is (rw c.as_slice-in-D.ensures at c.can_count_down.ensures)

pub returns-in-T : goal.returns-in-T
returns-in-T c = rw c.in-T.is (rw c.as_slice-in-T.ensures at c.can_count.ensures)

pub returns-in-X : goal.returns-in-X
returns-in-X c = rw c.in-X.is (rw c.as_slice-in-X.ensures at c.can_delete.ensures)
