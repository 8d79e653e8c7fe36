-- Bytes that go to a sink in pieces: what was sent, and what waits.
use Rattle.std.proofs.Common.{◌≡◌, ℕ, List, [], ◌++◌, refl, sym, ap, subst, ◌∙◌, append-nil, append_assoc}
use Rattle.std.specs.Prelude.{Option, Some, None, Result, Ok, Err, OnOk, OnErr}
use Rattle.metrics_core.specs.Outside.{GrewBy, GrewByPrefix}
use Rattle.prom_exporter.specs.Sending.{IsSent, SendsMore, SendsPrefix}
use Rattle.metrics_core.proofs.Grown.{grew_none, grew-append, grew_prefix-append, grew_prefix-longer}

grew_nothing : (told : Option (List ℕ)) → GrewBy told told []
grew_nothing None = tt
grew_nothing (Some before) = ap Some (sym (append-nil before))

pub sent_none : (told : Option (List ℕ)) → IsSent told told [] []
sent_none told = record { sent = []; grew = grew_nothing told; spelled = refl }

module _ (a b : Option (List ℕ)) (waiting bytes : List ℕ) (so_far : IsSent a b waiting bytes) where
  -- more bytes wait
  pub sent-append : (more : List ℕ) → IsSent a b (waiting ++ more) (bytes ++ more)
  sent-append more = record {
    sent = so_far.sent;
    grew = so_far.grew;
    spelled = ap (λ l. l ++ more) so_far.spelled ∙ append_assoc so_far.sent waiting more;
  }

  module _ (c : Option (List ℕ)) where
    -- all that waits was sent
    pub sent_all : GrewBy b c waiting → GrewBy a c bytes
    sent_all more = subst (GrewBy a c) (sym so_far.spelled) (grew-append a b c so_far.sent waiting so_far.grew more)

    pub sent-again : GrewBy b c waiting → IsSent a c [] bytes
    sent-again more = record { sent = bytes; grew = sent_all more; spelled = sym (append-nil bytes) }

    -- a prefix of what waits was sent
    pub sent_prefix : GrewByPrefix b c waiting → (rest : List ℕ) → GrewByPrefix a c (bytes ++ rest)
    sent_prefix more rest =
        grew_prefix-longer a c bytes rest (subst (GrewByPrefix a c) (sym so_far.spelled) (grew_prefix-append a b c so_far.sent waiting so_far.grew more))

  -- nothing of it was
  pub sent_nothing : (rest : List ℕ) → GrewByPrefix a b (bytes ++ rest)
  sent_nothing rest = sent_prefix b (grew_none b waiting) rest

-- ---- two parts, one behind the other

pub ok_any : {T E X : Type 0} (r : Result T E) → X → OnOk r X
ok_any (Ok v) x = x
ok_any (Err e) x = tt

pub ok_behind : {T E : Type 0} (r : Result T E) (a b c : Option (List ℕ)) (x y : List ℕ) → GrewBy a b x → OnOk r (GrewBy b c y) → OnOk r (GrewBy a c (x ++ y))
ok_behind (Ok v) a b c x y first rest = grew-append a b c x y first rest
ok_behind (Err e) a b c x y first rest = tt

pub err_behind : {T E : Type 0} (r : Result T E) (a b c : Option (List ℕ)) (x y : List ℕ) → GrewBy a b x → OnErr r (GrewByPrefix b c y) → OnErr r (GrewByPrefix a c (x ++ y))
err_behind (Ok v) a b c x y first rest = tt
err_behind (Err e) a b c x y first rest = grew_prefix-append a b c x y first rest

-- ---- further bytes, one part behind the other

pub sends_none : (a : Option (List ℕ)) (w : List ℕ) → SendsMore a a w w []
sends_none a w start bytes waits = subst (IsSent start a w) (sym (append-nil bytes)) waits

-- more bytes wait
pub sends_grown : (a : Option (List ℕ)) (w v more : List ℕ) → v ≡ w ++ more → SendsMore a a w v more
sends_grown a w v more is start bytes waits = subst (λ l. IsSent start a l (bytes ++ more)) (sym is) (sent-append start a w bytes waits more)

module _ (a b : Option (List ℕ)) (w v x : List ℕ) where
  pub sends_behind : (c : Option (List ℕ)) (u y : List ℕ) → SendsMore a b w v x → SendsMore b c v u y → SendsMore a c w u (x ++ y)
  sends_behind c u y first rest start bytes waits = subst (IsSent start c u) (append_assoc bytes x y) (rest start (bytes ++ x) (first start bytes waits))

  pub sends_prefix_behind : (c : Option (List ℕ)) (y : List ℕ) → SendsMore a b w v x → SendsPrefix b c v y → SendsPrefix a c w (x ++ y)
  sends_prefix_behind c y first rest start bytes waits = subst (GrewByPrefix start c) (append_assoc bytes x y) (rest start (bytes ++ x) (first start bytes waits))

  -- no more was sent
  pub sends_stopped : (y : List ℕ) → SendsMore a b w v x → SendsPrefix a b w (x ++ y)
  sends_stopped y first start bytes waits = subst (GrewByPrefix start b) (append_assoc bytes x y) (sent_nothing start b v (bytes ++ x) (first start bytes waits) y)

-- a prefix of some bytes is one of more
pub sends_prefix_more : (a b : Option (List ℕ)) (w x y : List ℕ) → SendsPrefix a b w x → SendsPrefix a b w (x ++ y)
sends_prefix_more a b w x y first start bytes waits = subst (GrewByPrefix start b) (append_assoc bytes x y) (grew_prefix-longer start b (bytes ++ x) y (first start bytes waits))

-- ---- one more block: the lines above its rows wait, its rows are sent or wait, and its end waits

module _ (a b : Option (List ℕ)) (w v so_far : List ℕ) (first : SendsMore a b w v so_far) where
  -- nothing of it was sent
  pub block_none : (block rest whole : List ℕ) → whole ≡ (so_far ++ block) ++ rest → SendsPrefix a b w whole
  block_none block rest whole is =
      subst (SendsPrefix a b w) (sym (is ∙ append_assoc so_far block rest)) (sends_stopped a b w v so_far (block ++ rest) first)

  module _ (c : Option (List ℕ)) (u title rows : List ℕ) (titled : u ≡ v ++ title) where
    above : SendsMore a b w u (so_far ++ title)
    above = sends_behind a b w v so_far b u title first (sends_grown b v u title titled)

    cut : (end rest whole : List ℕ) → whole ≡ (so_far ++ ((title ++ rows) ++ end)) ++ rest → ((so_far ++ title) ++ rows) ++ (end ++ rest) ≡ whole
    cut end rest whole is =
        let same : (so_far ++ ((title ++ rows) ++ end)) ++ rest ≡ ((so_far ++ title) ++ rows) ++ (end ++ rest) = simp append_assoc in
        sym (is ∙ same)

    -- a prefix of its rows was sent
    pub block_cut : SendsPrefix b c u rows → (end rest whole : List ℕ) → whole ≡ (so_far ++ ((title ++ rows) ++ end)) ++ rest → SendsPrefix a c w whole
    block_cut prefix end rest whole is =
        subst (SendsPrefix a c w) (cut end rest whole is)
        (sends_prefix_more a c w ((so_far ++ title) ++ rows) (end ++ rest) (sends_prefix_behind a b w u (so_far ++ title) c rows above prefix))

    module _ (y : List ℕ) (rowed : SendsMore b c u y rows) where
      through : SendsMore a c w y ((so_far ++ title) ++ rows)
      through = sends_behind a b w u (so_far ++ title) c y rows above rowed

      -- its end is missing
      pub block_stopped : (end rest whole : List ℕ) → whole ≡ (so_far ++ ((title ++ rows) ++ end)) ++ rest → SendsPrefix a c w whole
      block_stopped end rest whole is =
          subst (SendsPrefix a c w) (cut end rest whole is) (sends_stopped a c w y ((so_far ++ title) ++ rows) (end ++ rest) through)

      -- all of it was sent or waits
      pub block_more : (z end more : List ℕ) → z ≡ y ++ end → more ≡ so_far ++ ((title ++ rows) ++ end) → SendsMore a c w z more
      block_more z end more ended is =
          let whole : ((so_far ++ title) ++ rows) ++ end ≡ so_far ++ ((title ++ rows) ++ end) = simp append_assoc in
          subst (SendsMore a c w z) (whole ∙ sym is) (sends_behind a c w y ((so_far ++ title) ++ rows) c z end through (sends_grown c y z end ended))
