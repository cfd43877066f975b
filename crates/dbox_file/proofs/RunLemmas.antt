-- Runs of octets that pass a test, and fixed texts.
use Rattle.std.specs.Prelude.{◌≡◌, ◌<◌, ◌-◌, Bool, false, ℕ, zero, suc, replicate, List, ◌++◌, length, refl, IsTrue}
use Rattle.std.specs.List.{list_all}
use Rattle.std.proofs.Common.{sym, ◌∙◌, ap, subst, length-append, arith}
use Rattle.std.proofs.lemmas.List.{length-replicate}
use Rattle.std.proofs.lemmas.List.Folds.{list_all-append}
use Rattle.model_storage.specs.Grammars.{Begins, IsPrefixFree}
use Rattle.model_octets.proofs.PiecesLemmas.{split_same}
use Rattle.model_storage.proofs.FileLemmas.{first, second}
use Rattle.dbox_file.specs.declared.reading.Flaw.TheVariants.{Short, Bad}
use Rattle.dbox_file.specs.Reading.{Flawed, IsText, IsRun}

pub all_replicated : (test : ℕ → Bool) (n d : ℕ) → IsTrue (test d) → IsTrue (list_all test (replicate n d))
all_replicated test zero d h = refl
all_replicated test (suc n) d h = rw h (all_replicated test n d h)

pub all_joined : (test : ℕ → Bool) (a b : List ℕ) → IsTrue (list_all test a) → IsTrue (list_all test b) → IsTrue (list_all test (a ++ b))
all_joined test a b pa pb = rw (list_all-append test a b, pa) pb

pub all_front : (test : ℕ → Bool) (a b : List ℕ) → IsTrue (list_all test (a ++ b)) → IsTrue (list_all test a)
all_front test a b h = first (list_all test a) (list_all test b) (subst IsTrue (list_all-append test a b) h)

pub all_back : (test : ℕ → Bool) (a b : List ℕ) → IsTrue (list_all test (a ++ b)) → IsTrue (list_all test b)
all_back test a b h = second (list_all test a) (list_all test b) (subst IsTrue (list_all-append test a b) h)

-- fewer octets begin with no run
pub too_few : (count : ℕ) (test : ℕ → Bool) (t : List ℕ) → length t < count → Begins (IsRun count test) t → ⊥
too_few count test t h q = omega (arith, h, ap length q.3, length-append q.0 q.1, q.4.0)

pub run_short : (count d : ℕ) (test : ℕ → Bool) (t : List ℕ) → IsTrue (test d) → length t < count → IsTrue (list_all test t) → Flawed (IsRun count test) t Short
run_short count d test t pd h p = (
  too_few count test t h,
  (
    replicate (count - length t) d,
    tt,
    (
      omega (arith, h, length-append t (replicate (count - length t) d), length-replicate (count - length t) d),
      all_joined test t (replicate (count - length t) d) p (all_replicated test (count - length t) d pd),
    ),
  ),
)

pub run_bad : (count : ℕ) (test : ℕ → Bool) (t : List ℕ) → length t < count → list_all test t ≡ false → Flawed (IsRun count test) t Bad
run_bad count test t h p = (too_few count test t h, λ q. let f = all_front test t q.0 q.2.1 in cc (f, p))

-- a fixed text, whole or cut off
pub text_short : (w t rest : List ℕ) → ((r : List ℕ) → t ≡ w ++ r → ⊥) → w ≡ t ++ rest → Flawed (IsText w) t Short
text_short w t rest none e = (λ q. none q.1 (q.3 ∙ ap (λ (o : List ℕ). o ++ q.1) q.4), (rest, tt, sym e))

pub text_bad : (w t : List ℕ) → ((r : List ℕ) → t ≡ w ++ r → ⊥) → ((r : List ℕ) → w ≡ t ++ r → ⊥) → Flawed (IsText w) t Bad
text_bad w t none front = (λ q. none q.1 (q.3 ∙ ap (λ (o : List ℕ). o ++ q.1) q.4), λ q. front q.0 (sym q.2))

-- no fixed text and no run of one length is the front of another
pub text_free : (w : List ℕ) → IsPrefixFree (IsText w)
text_free w a b x y u v pa pb e = (pa ∙ sym pb, refl)

pub run_free : (count : ℕ) (test : ℕ → Bool) → IsPrefixFree (IsRun count test)
run_free count test a b x y u v pa pb e = ((split_same a b x y (pa.0 ∙ sym pb.0) e).0, refl)
