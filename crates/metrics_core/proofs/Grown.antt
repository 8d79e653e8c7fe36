-- How what an object tells grows from call to call.
use Rattle.std.proofs.Common.{◌≡◌, ℕ, List, [], ◌++◌, refl, sym, ap, ◌∙◌, append-nil, append_assoc}
use Rattle.std.specs.Prelude.{Option, Some, None}
use Rattle.metrics_core.specs.Outside.{GrewBy, GrewByPrefix, GrewUpTo, WrittenUpTo}

-- where nothing was written, a prefix of any bytes was
pub grew_none : (told : Option (List ℕ)) (whole : List ℕ) → GrewByPrefix told told whole
grew_none None whole = tt
grew_none (Some before) whole = (whole, record { prefix = []; cut = refl; written = ap Some (sym (append-nil before)) })

-- two growths after each other are one
pub grew-append : (a b c : Option (List ℕ)) (x y : List ℕ) → GrewBy a b x → GrewBy b c y → GrewBy a c (x ++ y)
grew-append None b c x y h k = tt
grew-append (Some before) b c x y h k = by b h k
  where
    by : (b : Option (List ℕ)) → b ≡ Some (before ++ x) → GrewBy b c y → c ≡ Some (before ++ (x ++ y))
    by None e k = cc
    by (Some middle) e k = k ∙ ap (λ m. Some (m ++ y)) (some_injective e) ∙ ap Some (append_assoc before x y)
      where
        some_injective : Some middle ≡ Some (before ++ x) → middle ≡ before ++ x
        some_injective e = cc

-- a growth and then a growth by a prefix is a growth by a prefix of both
pub grew_prefix-append : (a b c : Option (List ℕ)) (x y : List ℕ) → GrewBy a b x → GrewByPrefix b c y → GrewByPrefix a c (x ++ y)
grew_prefix-append None b c x y h k = tt
grew_prefix-append (Some before) b c x y h k = by b h k
  where
    by : (b : Option (List ℕ)) → b ≡ Some (before ++ x) → GrewByPrefix b c y → (rest : List ℕ) × WrittenUpTo before c (x ++ y) rest
    by None e k = cc
    by (Some middle) e (rest, up) = (
      rest,
      record {
        prefix = x ++ up.prefix;
        cut = ap (λ m. x ++ m) up.cut ∙ sym (append_assoc x up.prefix rest);
        written = up.written ∙ ap (λ m. Some (m ++ up.prefix)) (some_injective e) ∙ ap Some (append_assoc before x up.prefix);
      },
    )
      where
        some_injective : Some middle ≡ Some (before ++ x) → middle ≡ before ++ x
        some_injective e = cc

-- a growth by a prefix of some bytes is one by a prefix of these bytes and more
pub grew_prefix-longer : (a b : Option (List ℕ)) (x y : List ℕ) → GrewByPrefix a b x → GrewByPrefix a b (x ++ y)
grew_prefix-longer None b x y h = tt
grew_prefix-longer (Some before) b x y (rest, up) = (
  rest ++ y,
  record {
    prefix = up.prefix;
    cut = ap (λ m. m ++ y) up.cut ∙ append_assoc up.prefix rest y;
    written = up.written;
  },
)

-- a growth by the whole is one by a prefix
pub grew_prefix-whole : (a b : Option (List ℕ)) (x : List ℕ) → GrewBy a b x → GrewByPrefix a b x
grew_prefix-whole None b x h = tt
grew_prefix-whole (Some before) b x h = ([], record { prefix = x; cut = sym (append-nil x); written = h })

-- where nothing was written yet, all is left to write
pub grew_up_to-start : (told : Option (List ℕ)) (whole : List ℕ) → GrewUpTo told told whole whole
grew_up_to-start None whole = tt
grew_up_to-start (Some before) whole = record { prefix = []; cut = refl; written = ap Some (sym (append-nil before)) }

-- a growth by the next bytes leaves the rest
pub grew_up_to-append : (a b c : Option (List ℕ)) (whole x rest : List ℕ) → GrewUpTo a b whole (x ++ rest) → GrewBy b c x → GrewUpTo a c whole rest
grew_up_to-append None b c whole x rest h k = tt
grew_up_to-append (Some before) b c whole x rest h k = by b h k
  where
    by : (b : Option (List ℕ)) → WrittenUpTo before b whole (x ++ rest) → GrewBy b c x → WrittenUpTo before c whole rest
    by None h k = absurd (impossible h.written)
      where
        impossible : {r : List ℕ} → None ≡ Some r → ⊥
        impossible e = cc
    by (Some middle) h k = record {
      prefix = h.prefix ++ x;
      cut = h.cut ∙ sym (append_assoc h.prefix x rest);
      written = k ∙ ap (λ m. Some (m ++ x)) (same h.written) ∙ ap Some (append_assoc before h.prefix x);
    }
      where
        same : {r : List ℕ} → Some middle ≡ Some r → middle ≡ r
        same e = cc

-- a growth by a prefix of the next bytes is one by a prefix of the whole
pub grew_up_to-prefix : (a b c : Option (List ℕ)) (whole x rest : List ℕ) → GrewUpTo a b whole (x ++ rest) → GrewByPrefix b c x → GrewByPrefix a c whole
grew_up_to-prefix None b c whole x rest h k = tt
grew_up_to-prefix (Some before) b c whole x rest h k = by b h k
  where
    by : (b : Option (List ℕ)) → WrittenUpTo before b whole (x ++ rest) → GrewByPrefix b c x → (last : List ℕ) × WrittenUpTo before c whole last
    by None h k = absurd (impossible h.written)
      where
        impossible : {r : List ℕ} → None ≡ Some r → ⊥
        impossible e = cc
    by (Some middle) h (last, up) = (
      last ++ rest,
      record {
        prefix = h.prefix ++ up.prefix;
        cut = h.cut ∙ ap (λ m. h.prefix ++ (m ++ rest)) up.cut ∙ regroup h.prefix up.prefix last rest;
        written = up.written ∙ ap (λ m. Some (m ++ up.prefix)) (same h.written) ∙ ap Some (append_assoc before h.prefix up.prefix);
      },
    )
      where
        same : {r : List ℕ} → Some middle ≡ Some r → middle ≡ r
        same e = cc

        regroup : (p q r s : List ℕ) → p ++ ((q ++ r) ++ s) ≡ (p ++ q) ++ (r ++ s)
        regroup p q r s = simp append_assoc

-- where nothing is left, the whole was written
pub grew_up_to-end : (a b : Option (List ℕ)) (whole rest : List ℕ) → rest ≡ [] → GrewUpTo a b whole rest → GrewBy a b whole
grew_up_to-end None b whole rest none h = tt
grew_up_to-end (Some before) b whole rest none h =
    h.written ∙ ap (λ m. Some (before ++ m)) (sym (append-nil h.prefix) ∙ ap (λ r. h.prefix ++ r) (sym none) ∙ sym h.cut)

-- what was written so far is a prefix
pub grew_up_to-so_far : (a b : Option (List ℕ)) (whole rest : List ℕ) → GrewUpTo a b whole rest → GrewByPrefix a b whole
grew_up_to-so_far None b whole rest h = tt
grew_up_to-so_far (Some before) b whole rest h = (rest, h)
