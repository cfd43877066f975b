use Rattle.std.proofs.Common.{◌≡◌, ◌++◌, ◌∷◌, ℕ, List, length, [], slice_set, refl, arith}
use borrow.Rule.Slice.PartMut.{put_mid}
use Rattle.model_logs.specs.LogFile.{head_octets}
use Rattle.gate_log.proofs.head.head_text.Goals as goal

laid : (store : List ℕ) (digit kind n0 n1 n2 n3 g0 g1 g2 g3 : ℕ) → length store ≡ 8
    → put_mid 21 4 (put_mid 17 4 (slice_set (put_mid 8 8 ((77 ∷ 68 ∷ 66 ∷ 88 ∷ 76 ∷ 79 ∷ 71 ∷ digit ∷ []) ++ 0 ∷ 0 ∷ 0 ∷ 0 ∷ 0 ∷ 0 ∷ 0 ∷ 0 ∷ 0 ∷ 0 ∷ 0 ∷ 0 ∷ 0 ∷ 0 ∷ 0 ∷ 0 ∷ 0 ∷ []) store) 16 kind) (n0 ∷ n1 ∷ n2 ∷ n3 ∷ [])) (g0 ∷ g1 ∷ g2 ∷ g3 ∷ [])
    ≡ (77 ∷ 68 ∷ 66 ∷ 88 ∷ 76 ∷ 79 ∷ 71 ∷ digit ∷ []) ++ (store ++ (kind ∷ n0 ∷ n1 ∷ n2 ∷ n3 ∷ g0 ∷ g1 ∷ g2 ∷ g3 ∷ []))
laid [] digit kind n0 n1 n2 n3 g0 g1 g2 g3 short = absurd (omega (arith, short))
laid (a ∷ []) digit kind n0 n1 n2 n3 g0 g1 g2 g3 short = absurd (omega (arith, short))
laid (a ∷ b ∷ []) digit kind n0 n1 n2 n3 g0 g1 g2 g3 short = absurd (omega (arith, short))
laid (a ∷ b ∷ c ∷ []) digit kind n0 n1 n2 n3 g0 g1 g2 g3 short = absurd (omega (arith, short))
laid (a ∷ b ∷ c ∷ d ∷ []) digit kind n0 n1 n2 n3 g0 g1 g2 g3 short = absurd (omega (arith, short))
laid (a ∷ b ∷ c ∷ d ∷ e ∷ []) digit kind n0 n1 n2 n3 g0 g1 g2 g3 short = absurd (omega (arith, short))
laid (a ∷ b ∷ c ∷ d ∷ e ∷ f ∷ []) digit kind n0 n1 n2 n3 g0 g1 g2 g3 short = absurd (omega (arith, short))
laid (a ∷ b ∷ c ∷ d ∷ e ∷ f ∷ g ∷ []) digit kind n0 n1 n2 n3 g0 g1 g2 g3 short = absurd (omega (arith, short))
laid (a ∷ b ∷ c ∷ d ∷ e ∷ f ∷ g ∷ h ∷ []) digit kind n0 n1 n2 n3 g0 g1 g2 g3 short = refl
laid (a ∷ b ∷ c ∷ d ∷ e' ∷ f ∷ g ∷ h ∷ i ∷ rest) digit kind n0 n1 n2 n3 g0 g1 g2 g3 short = absurd (omega (arith, short))

pub returns : goal.returns
unfolding head_octets
returns c = rw (c.copy_from_slice.ensures.after, c.copy_from_slice-2.ensures.after, c.letter.ensures, c.copy_from_slice-3.ensures.after, c.copy_from_slice-4.ensures.after, c.to_be_bytes.ensures, c.to_be_bytes-2.ensures)
    (laid c.args.head.store.0 _ _ _ _ _ _ _ _ _ _ c.fits.ensures.store)
