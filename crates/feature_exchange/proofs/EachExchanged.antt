-- Numbers that get their features one after the other, the last one first.
use Rattle.kit_words.proofs.Common.{◌≡◌, ◌+◌, ◌-◌, ◌<◌, ℕ, true, refl, sym, ap, ap₂, ◌∙◌, subst, cond, List, [], ◌∷◌}
use Rattle.kit_words.proofs.Common.{◌++◌, length, inl, Option, Some, None, option_map, arith, get_or, append_assoc}
use Rattle.kit_words.proofs.Common.{eq-eqb, Vec, set, flat_map, append-nil, length-append, nil_from_length}
use Rattle.kit_words.proofs.Common.{flat_map-map, get_or-append_seam, set-append_seam}
use Rattle.grid_geometry.specs.Common.{Position}
use Rattle.ring_machine.specs.Common.{FeatureOf, feature, fits_form}
use Rattle.ring_machine.proofs.Common.{In, in_contains}
use Rattle.map_frame.specs.Common.{IsNumberOf, feature_numbers, polygon_numbers, Framed, with_texts}
use Rattle.edit_records.specs.Common.{exchanged, exchanged_features}
use Rattle.edit_records.proofs.Common.{exchanged-append, exchanged-feature, filled-agree}
use Rattle.feature_exchange.specs.Common.{IsReady, numbered, all_numbered, change_had, all_had, put_in, had, rings_in}
use Rattle.feature_exchange.specs.Common.{coming, Change, WholeFeature}
use Rattle.feature_exchange.proofs.Prepared.{in_of}
use Rattle.feature_exchange.proofs.Readied.{none_exchanged, ready_left, ready_right, all_changes, apart_parts, under_stays}

-- ---- lists

snoc : {X : Type 0} (xs : List X) (k : ℕ) → length xs ≡ k + 1 → (ys : List X) × (y : X) × (xs ≡ ys ++ y ∷ []) × (length ys ≡ k)
snoc [] k e = absurd (omega (arith, e))
snoc (x ∷ []) k e = ([], x, refl, omega (arith, e))
snoc (x ∷ y ∷ ys) k e =
    let s = snoc (y ∷ ys) (k - 1) (omega (arith, e)) in
    (x ∷ s.0, s.1, ap (λ z. x ∷ z) s.2, omega (arith, e, s.3))

set_mid : {X : Type 0} (us : List X) (x y : X) (vs : List X) → set (us ++ x ∷ vs) (length us) y ≡ us ++ y ∷ vs
set_mid us x y vs = set-append_seam us x vs y

-- the polygons that a number had, and the numbers of the rings that it gets
abbrev pub Read : Type 0 → Type 0
Read A = Vec (Vec (Vec Position A) A) A

abbrev pub Came : Type 0 → Type 0
Came A = Vec (Vec ℕ A) A

module _ {A : Type 0} where
  numbered-append : (xs ys : List (Change A)) (ls ms : List (Came A)) → length xs ≡ length ls
      → all_numbered (xs ++ ys) (ls ++ ms) ≡ all_numbered xs ls ++ all_numbered ys ms
  numbered-append [] ys [] ms e = refl
  numbered-append [] ys (l ∷ ls) ms e = absurd (omega (arith, e))
  numbered-append (x ∷ xs) ys [] ms e = absurd (omega (arith, e))
  numbered-append (x ∷ xs) ys (l ∷ ls) ms e =
      ap (λ z. numbered x (feature_numbers l) ∷ z) (numbered-append xs ys ls ms (omega (arith, e)))

  -- so many are left, and the others have their features
  pub record Halfway (frame0 : Framed) (cs0 : List (Change A)) (ps0 : List (Read A)) (ls0 : List (Came A)) (frame : Framed)
      (cs : List (Change A)) (ps : List (Read A)) (ls : List (Came A)) (left : ℕ) : Type 0 where
    pub start : List (Change A)
    pub done : List (Change A)
    pub read : List (Read A)
    pub came : List (Came A)
    pub all : cs0 ≡ start ++ done
    pub now : cs ≡ start ++ all_had frame0.doc done read
    pub all_read : ps0 ≡ ps ++ read
    pub all_came : ls0 ≡ ls ++ came
    pub long : length start ≡ left
    pub long_ps : length ps ≡ left
    pub long_ls : length ls ≡ left
    pub is : frame ≡ put_in frame0 (all_numbered done came)

  pub halfway_first : (frame : Framed) (cs : List (Change A)) (ps : List (Read A)) (ls : List (Came A))
      → IsReady frame (all_numbered cs ls) → length ps ≡ length cs → length ls ≡ length cs
      → (left : ℕ) → left ≡ length cs → Halfway frame cs ps ls frame cs ps ls left
  halfway_first frame cs ps ls ready p l left e = record {
    start = cs;
    done = [];
    read = [];
    came = [];
    all = sym (append-nil cs);
    now = sym (append-nil cs);
    all_read = sym (append-nil ps);
    all_came = sym (append-nil ls);
    long = sym e;
    long_ps = p ∙ sym e;
    long_ls = l ∙ sym e;
    is = sym (ap (λ z. record frame { doc = z }) (none_exchanged frame.places frame.doc ready.placed.fills));
  }

  module _ (frame0 : Framed) (cs0 : List (Change A)) (ps0 : List (Read A)) (ls0 : List (Came A)) (ready : IsReady frame0 (all_numbered cs0 ls0))
      (frame : Framed) (cs : List (Change A)) (ps : List (Read A)) (ls : List (Came A)) (k : ℕ)
      (half : Halfway frame0 cs0 ps0 ls0 frame cs ps ls (k + 1))
      (ps' : List (Read A)) (p : Read A) (popped : ps ≡ ps' ++ p ∷ []) (ls' : List (Came A)) (l : Came A) (popped' : ls ≡ ls' ++ l ∷ []) where
    pub last : (ys : List (Change A)) × (y : Change A) × (half.start ≡ ys ++ y ∷ []) × (length ys ≡ k)
    last = snoc half.start k half.long

    abbrev pub x : Change A
    x = last.1

    abbrev pub pair : ℕ × Option (FeatureOf ℕ)
    pair = numbered x (feature_numbers l)

    abbrev pub rest : List (ℕ × Option (FeatureOf ℕ))
    rest = all_numbered half.done half.came

    short_ls : length ls' ≡ k
    short_ls = omega (arith, half.long_ls, ap length popped', length-append ls' (l ∷ []))

    short_ps : length ps' ≡ k
    short_ps = omega (arith, half.long_ps, ap length popped, length-append ps' (p ∷ []))

    all_is : cs0 ≡ last.0 ++ (x ∷ half.done)
    all_is = half.all ∙ ap (λ z. z ++ half.done) last.2 ∙ append_assoc last.0 (x ∷ []) half.done

    came_is : ls0 ≡ ls' ++ (l ∷ half.came)
    came_is = half.all_came ∙ ap (λ z. z ++ half.came) popped' ∙ append_assoc ls' (l ∷ []) half.came

    read_is : ps0 ≡ ps' ++ (p ∷ half.read)
    read_is = half.all_read ∙ ap (λ z. z ++ half.read) popped ∙ append_assoc ps' (p ∷ []) half.read

    ready_rest : IsReady frame0 (pair ∷ rest)
    ready_rest =
        ready_right frame0 (all_numbered last.0 ls') (pair ∷ rest)
        (subst (IsReady frame0) (ap₂ (λ y z. all_numbered y z) all_is came_is ∙ numbered-append last.0 (x ∷ half.done) ls' (l ∷ half.came) (omega (arith, last.3, short_ls))) ready)

    ready_here : IsReady frame (pair ∷ [])
    ready_here =
        subst (λ z. IsReady z (pair ∷ [])) (sym half.is)
        (ready_left frame0 (pair ∷ []) rest ready_rest (all_changes frame0 rest (ready_right frame0 (pair ∷ []) rest ready_rest)))

    -- what stands in the list now
    now_is : cs ≡ last.0 ++ (x ∷ all_had frame0.doc half.done half.read)
    now_is = half.now ∙ ap (λ z. z ++ all_had frame0.doc half.done half.read) last.2 ∙ append_assoc last.0 (x ∷ []) (all_had frame0.doc half.done half.read)

    pub change_is : (d : Change A) → get_or cs k d ≡ x
    change_is d =
        ap₂ (λ y z. get_or y z d) now_is (sym last.3) ∙ get_or-append_seam last.0 x (all_had frame0.doc half.done half.read) d

    pub step_ready : (c d : Change A) → c ≡ get_or cs k d → IsReady frame (numbered c (feature_numbers l) ∷ [])
    step_ready c d e = subst (λ z. IsReady frame (numbered z (feature_numbers l) ∷ [])) (sym (e ∙ change_is d)) ready_here

    same_feature : feature frame.doc x.number ≡ feature frame0.doc x.number
    same_feature =
        ap (λ (z : Framed). feature z.doc x.number) half.is
        ∙ under_stays frame0 (pair ∷ []) rest ready_rest x.number (ready.placed.placed x.number ready_rest.below.0)
        (λ i. (apart_parts frame0 (pair ∷ []) rest ready_rest).apart x.number (inl refl) i)

    pub halfway_step : (frame' : Framed) (c d c' : Change A) (cs' : List (Change A)) → c ≡ get_or cs k d
        → frame' ≡ put_in frame (numbered c (feature_numbers l) ∷ []) → c' ≡ change_had frame.doc c p
        → cs' ≡ set cs k c' → Halfway frame0 cs0 ps0 ls0 frame' cs' ps' ls' k
    halfway_step frame' c d c' cs' e f g h =
        let same : c ≡ x = e ∙ change_is d in
        record {
          start = last.0;
          done = x ∷ half.done;
          read = p ∷ half.read;
          came = l ∷ half.came;
          all = all_is;
          now =
              h ∙ ap₂ (λ y z. set y z c') now_is (sym last.3)
              ∙ set_mid last.0 x c' (all_had frame0.doc half.done half.read)
              ∙ ap (λ z. last.0 ++ z ∷ all_had frame0.doc half.done half.read)
              (g ∙ ap (λ z. change_had frame.doc z p) same
              ∙ ap (λ o. record { number = x.number; was = option_map (had p) o }) same_feature);
          all_read = read_is;
          all_came = came_is;
          long = last.3;
          long_ps = short_ps;
          long_ls = short_ls;
          is =
              f ∙ ap₂ (λ y z. put_in y (numbered z (feature_numbers l) ∷ [])) half.is same
              ∙ ap (λ z. record frame0 { doc = z })
              (exchanged-append frame0.places rest frame0.doc (ready_right frame0 (pair ∷ []) rest ready_rest).own (pair ∷ []));
        }

  module _ (frame0 : Framed) (cs0 : List (Change A)) (ps0 : List (Read A)) (ls0 : List (Came A))
      (frame : Framed) (cs : List (Change A)) (ps : List (Read A)) (ls : List (Came A)) (left : ℕ)
      (half : Halfway frame0 cs0 ps0 ls0 frame cs ps ls left) (none : left ≡ 0) where
    all_done : cs0 ≡ half.done
    all_done = half.all ∙ ap (λ z. z ++ half.done) (nil_from_length half.start (half.long ∙ none))

    pub halfway_frame : frame ≡ put_in frame0 (all_numbered cs0 ls0)
    halfway_frame =
        half.is
        ∙ ap₂ (λ y z. put_in frame0 (all_numbered y z)) (sym all_done)
        (sym (half.all_came ∙ ap (λ z. z ++ half.came) (nil_from_length ls (half.long_ls ∙ none))))

    pub halfway_had : cs ≡ all_had frame0.doc cs0 ps0
    halfway_had =
        half.now ∙ ap (λ z. z ++ all_had frame0.doc half.done half.read) (nil_from_length half.start (half.long ∙ none))
        ∙ ap₂ (λ y z. all_had frame0.doc y z) (sym all_done)
        (sym (half.all_read ∙ ap (λ z. z ++ half.read) (nil_from_length ps (half.long_ps ∙ none))))

-- ---- one number

-- taken out, and then put
pub taken_and_put : (frame : Framed) (c : ℕ × Option (FeatureOf ℕ)) → IsReady frame (c ∷ [])
    → exchanged frame.places (c ∷ []) (exchanged frame.places ((c.0, None) ∷ []) frame.doc)
    ≡ exchanged frame.places (c ∷ []) frame.doc
taken_and_put frame c ready =
    exchanged-append frame.places ((c.0, None) ∷ []) frame.doc ((λ f e. absurd cc), tt) (c ∷ [])
    ∙ ap (λ z. record { transform = frame.doc.transform; layers = z; members = frame.doc.members })
    (filled-agree (exchanged_features (c ∷ (c.0, None) ∷ []) (feature frame.doc)) (exchanged_features (c ∷ []) (feature frame.doc)) frame.places
    (λ m i. grind arith))

pub taken_free : (frame : Framed) (c : ℕ × Option (FeatureOf ℕ)) → IsReady frame (c ∷ [])
    → feature (exchanged frame.places ((c.0, None) ∷ []) frame.doc) c.0 ≡ None
taken_free frame c ready =
    exchanged-feature frame.places ((c.0, None) ∷ []) frame.doc ((λ f e. absurd cc), tt) c.0 (ready.placed.placed c.0 ready.below.0)
    ∙ ap (λ b. cond b None (feature frame.doc c.0)) (eq-eqb c.0 c.0 refl)

module _ {A : Type 0} (frame : Framed) (c : Change A) (l : Came A) (ready : IsReady frame (numbered c (feature_numbers l) ∷ [])) where
  module _ (w : WholeFeature A) (was : c.was ≡ Some w) where
    abbrev new : FeatureOf ℕ
    new = with_texts c.number w.texts (feature_numbers l)

    new_is : option_map (λ w. with_texts c.number w.texts (feature_numbers l)) c.was ≡ Some new
    new_is = ap (option_map (λ w. with_texts c.number w.texts (feature_numbers l))) was

    pub one_fits : fits_form (with_texts c.number w.texts (feature_numbers l)) ≡ true
    one_fits = ready.fits.0 new new_is

    pub one_room : (r : ℕ) → IsNumberOf (flat_map polygon_numbers l.items) r → r < frame.room
    one_room r i =
        let coming_is : coming (numbered c (feature_numbers l) ∷ []) ≡ flat_map polygon_numbers l.items =
        append-nil (rings_in (option_map (λ w. with_texts c.number w.texts (feature_numbers l)) c.was))
        ∙ ap rings_in new_is ∙ flat_map-map (λ polygon. polygon) polygon_numbers l.items in
        ready.room r (in_contains (coming (numbered c (feature_numbers l) ∷ [])) r
        (subst (In r) (sym coming_is) (in_of (flat_map polygon_numbers l.items) r i.0 i.1)))

    pub one_put : (taken after : Framed) → taken ≡ put_in frame ((c.number, None) ∷ [])
        → after ≡ put_in taken ((c.number, Some (with_texts c.number w.texts (feature_numbers l))) ∷ [])
        → after ≡ put_in frame (numbered c (feature_numbers l) ∷ [])
    one_put taken after e f =
        f ∙ ap₂ (λ y z. put_in y ((c.number, z) ∷ [])) e (sym new_is)
        ∙ ap (λ z. record frame { doc = z }) (taken_and_put frame (numbered c (feature_numbers l)) ready)

  pub one_taken : c.was ≡ None → (taken : Framed) → taken ≡ put_in frame ((c.number, None) ∷ [])
      → taken ≡ put_in frame (numbered c (feature_numbers l) ∷ [])
  one_taken was taken e =
      e ∙ ap (λ z. put_in frame ((c.number, z) ∷ [])) (sym (ap (option_map (λ w. with_texts c.number w.texts (feature_numbers l))) was))

  pub one_free : (taken : Framed) → taken ≡ put_in frame ((c.number, None) ∷ []) → feature taken.doc c.number ≡ None
  one_free taken e = ap (λ (z : Framed). feature z.doc c.number) e ∙ taken_free frame (numbered c (feature_numbers l)) ready
