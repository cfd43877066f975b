-- The stage to which a purge goes on behind a file.
use Rattle.purge_task.proofs.Common.{◌≡◌, ◌+◌, ℕ, zero, suc, List, [], ◌∷◌, sym, ◌∙◌, ap, subst, arith, inl, inr, Reply, Run, StoreValue, sources_left, PurgeValue, GoesOnBehind, IsAtPurge, IsAtPurgeStage, IsNextStage, IsPurging, went_on, PurgeStage, Source, Work}
use Rattle.std.specs.Prelude.{drop}

one_more : (n : ℕ) (xs : List Source) (source : Source) (left : List Source) → drop n xs ≡ source ∷ left → drop (suc n) xs ≡ left
one_more zero [] source left e = absurd (cc e)
one_more zero (x ∷ xs) source left e = let k : xs ≡ left = cc e in k
one_more (suc n) [] source left e = absurd (cc e)
one_more (suc n) (x ∷ xs) source left e = one_more n xs source left e

-- the present file is done
pub left_on : (work : Work) (source : Source) (left : List Source) → sources_left work ≡ source ∷ left → sources_left (went_on work) ≡ left
left_on work source left e = let k : work.next + 1 ≡ suc work.next = omega arith in ap (λ (n : ℕ). drop n work.sources.items) k ∙ one_more work.next work.sources.items source left e

pub at_next : {D : Type 0} → (t : PurgeValue) (work : Work) (source : Source) (done left : List Source) (store : StoreValue D) (run : Run) (place : ℕ) (said : List Reply) → sources_left work ≡ source ∷ left → IsNextStage (went_on work) t.stage → IsPurging t done left (GoesOnBehind run) store run place said
    → IsAtPurge t store run place said
at_next t work source done left store run place said is next h = by_case next
  where
    at_left : IsPurging t done (sources_left (went_on work)) (GoesOnBehind run) store run place said
    at_left = subst (λ (rest : List Source). IsPurging t done rest (GoesOnBehind run) store run place said) (sym (left_on work source left is)) h

    by_case : IsNextStage (went_on work) t.stage → IsAtPurge t store run place said
    by_case (inl none) = subst (λ (s : PurgeStage). IsAtPurgeStage s t store run place said) (sym none.1) (done, subst (λ (rest : List Source). IsPurging t done rest (GoesOnBehind run) store run place said) none.0 at_left)
    by_case (inr some) = subst (λ (s : PurgeStage). IsAtPurgeStage s t store run place said) (sym some.1) (done, at_left)
