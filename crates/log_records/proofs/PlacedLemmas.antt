-- Pieces written one behind another.
use Rattle.std.proofs.Common.{◌≡◌, ℕ, List, ◌++◌, append_assoc}

pub six : (t0 t1 t2 t3 t4 t5 t6 x1 x2 x3 x4 x5 x6 a1 a2 a3 a4 a5 a6 : List ℕ)
    → t1 ≡ t0 ++ x1 → t2 ≡ t1 ++ x2 → t3 ≡ t2 ++ x3 → t4 ≡ t3 ++ x4 → t5 ≡ t4 ++ x5 → t6 ≡ t5 ++ x6
    → x1 ≡ a1 → x2 ≡ a2 → x3 ≡ a3 → x4 ≡ a4 → x5 ≡ a5 → x6 ≡ a6
    → t6 ≡ t0 ++ (a1 ++ (a2 ++ (a3 ++ (a4 ++ (a5 ++ a6)))))
six t0 t1 t2 t3 t4 t5 t6 x1 x2 x3 x4 x5 x6 a1 a2 a3 a4 a5 a6 e1 e2 e3 e4 e5 e6 s1 s2 s3 s4 s5 s6 =
    rw (e6, e5, e4, e3, e2, e1, s1, s2, s3, s4, s5, s6) (simp append_assoc)

pub seven : (t0 t1 t2 t3 t4 t5 t6 t7 x1 x2 x3 x4 x5 x6 x7 a1 a2 a3 a4 a5 a6 a7 : List ℕ)
    → t1 ≡ t0 ++ x1 → t2 ≡ t1 ++ x2 → t3 ≡ t2 ++ x3 → t4 ≡ t3 ++ x4 → t5 ≡ t4 ++ x5 → t6 ≡ t5 ++ x6 → t7 ≡ t6 ++ x7
    → x1 ≡ a1 → x2 ≡ a2 → x3 ≡ a3 → x4 ≡ a4 → x5 ≡ a5 → x6 ≡ a6 → x7 ≡ a7
    → t7 ≡ t0 ++ (a1 ++ (a2 ++ (a3 ++ (a4 ++ (a5 ++ (a6 ++ a7))))))
seven t0 t1 t2 t3 t4 t5 t6 t7 x1 x2 x3 x4 x5 x6 x7 a1 a2 a3 a4 a5 a6 a7 e1 e2 e3 e4 e5 e6 e7 s1 s2 s3 s4 s5 s6 s7 =
    rw (e7, e6, e5, e4, e3, e2, e1, s1, s2, s3, s4, s5, s6, s7) (simp append_assoc)
