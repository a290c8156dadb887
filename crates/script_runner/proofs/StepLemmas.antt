-- Steps that follow one another, and what stands where one of them failed.
use Rattle.kit_words.proofs.Common.{Result, Ok, Err, OnErr, ◌≡◌, ◌≢◌, ℕ, ◌+◌, take, length, List, [], ◌∷◌, ◌++◌, Option}
use Rattle.kit_words.proofs.Common.{None, Some, refl, sym, ap, ap₂, subst, ◌∙◌, arith, append_assoc, inl, inr, ◌⊎◌}
use Rattle.kit_words.proofs.Common.{MatchBool, Bool, true, false, cond, ◌==◌, take_all, Keeps, Appends-nil}
use Rattle.kit_words.proofs.Common.{Appends, Appends-kept}
use Rattle.std.proofs.Common.{append-nil}
use Rattle.ring_machine.specs.Common.{Document, Show}
use Rattle.undo_ring.specs.Common.{Edited, machine_of}
use Rattle.edit_records.specs.Common.{command_of}
use Rattle.edit_records.specs.declared.command.Command.{Command}
use Rattle.edit_records.specs.declared.command.Command.TheVariants as command
use Rattle.script_lines.specs.declared.lines.Line.{Line}
use Rattle.script_lines.specs.declared.lines.Line.TheVariants as said
use Rattle.script_lines.proofs.Common.{not_empty}
use Rattle.device_io.specs.Common.{AppendsPrefix}
use Rattle.device_io.proofs.Common.{Appends-none}
use Rattle.script_runner.specs.Common.{Meaning, Asked, reply_text, state_after_line, answered_by, refused_by, ShowsSaved}
use Rattle.script_runner.specs.Common.{RepliedLine, IsShownSaved, meaning_of_said, RunProgress, KeptMeans, LineStep}
use Rattle.script_runner.specs.Common.{ByteStep, Feeds, IsReplyFront, PutsPart, IsPartAt, FeedsPart, Told, Finishes}
use Rattle.script_runner.specs.Common.{PutsLast, LastStep, Counts, Summary}

pub OnErr-by : {A E : Type 0} (r : Result A E) {P : Type 0} → P → OnErr r P
OnErr-by (Ok x) h = tt
OnErr-by (Err e) h = h

-- the prefix of a reply
pub put_part : (ended : Bool) (p : RunProgress) (old new : Option (List ℕ)) (e : Edited) (over : Bool) (line : List ℕ) (m : Meaning)
    → p.depth ≡ e.depth → p.state ≡ machine_of e → p.over ≡ over → p.line ≡ line → KeptMeans over ended line m → AppendsPrefix old new (reply_text e.depth (machine_of e) m)
    → PutsPart ended p old new
put_part ended p old new e over line m ed es eo el k h =
    let (n, within, put) = h in
    let kept : KeptMeans p.over ended p.line m = rw (eo, el) k in
    (take n (reply_text e.depth (machine_of e) m), put, inr (m, n, kept, ap₂ (λ z x. take n (reply_text z x m)) (sym ed) (sym es)))

-- the kept line is answered, of an editor as it was and is
pub answered_line : (was is : Edited) (ended : Bool) (p q : RunProgress) (over : Bool) (line : List ℕ) (m : Meaning) (refuses : Bool)
    → p.depth ≡ was.depth → p.state ≡ machine_of was → p.over ≡ over → p.line ≡ line → KeptMeans over ended line m → RepliedLine was is m refuses → ShowsSaved (machine_of was) m
    → q.depth ≡ is.depth → q.state ≡ machine_of is → q.line ≡ [] → q.over ≡ false → q.answered ≡ p.answered + answered_by m → q.refused ≡ p.refused + cond refuses 1 0
    → LineStep ended p (reply_text was.depth (machine_of was) m) q
answered_line was is ended p q over line m refuses ed es eo el k r shows qd qs ql qo qa qr =
    let kept : KeptMeans p.over ended p.line m = rw (eo, el) k in (
      m,
      kept,
      record {
        told = ap₂ (λ n s. reply_text n s m) (sym ed) (sym es);
        shown = subst (λ s. ShowsSaved s m) (sym es) shows;
        after = qs ∙ r.stands ∙ ap₂ (λ n s. state_after_line n s m) (sym ed) (sym es);
        depth = qd ∙ r.depth ∙ sym ed;
        line = ql;
        over = qo;
        answered = qa;
        refused = qr ∙ ap (λ n. p.refused + n) (r.counts ∙ ap₂ (λ n s. refused_by n s m) (sym ed) (sym es));
      },
    )

-- a command is no question for the document
not_show : (c : Command) → Asked (command_of c) ≡ Asked Show → ⊥
not_show (command.Move p q) e = cc
not_show (command.Insert a b q) e = cc
not_show (command.Remove p) e = cc
not_show (command.Thin t) e = cc
not_show (command.Split n name path) e = cc
not_show (command.Merge n m) e = cc
not_show (command.Rename n name) e = cc
not_show (command.Delete n) e = cc
not_show (command.Area n) e = cc
not_show (command.At p) e = cc
not_show (command.Neighbours n) e = cc

-- what is shown of a document is saved whole
pub shows : (e : Edited) (l : Option Line) → IsShownSaved e.map.doc l → ShowsSaved (machine_of e) (meaning_of_said l)
shows e None h = λ same. absurd cc
shows e (Some said.Skip) h = λ same. absurd cc
shows e (Some (said.Rings n)) h = λ same. absurd cc
shows e (Some said.Count) h = λ same. absurd cc
shows e (Some said.Document) h = λ same. h
shows e (Some said.Undo) h = λ same. absurd cc
shows e (Some (said.Edit c)) h = λ same. absurd (not_show c same)

-- nothing was put
pub put_nothing : (ended : Bool) (p : RunProgress) (a : Option (List ℕ)) → PutsPart ended p a a
put_nothing ended p a = ([], Appends-nil a, inl refl)

-- a line feed ends the kept line
pub fed_line : (p q : RunProgress) (b : ℕ) (text : List ℕ) → b ≡ 10 → LineStep true (record p { bytes = p.bytes + 1 }) text q → q.bytes ≡ p.bytes + 1 → ByteStep p b text q
fed_line p q b text e s n =
    let (m, k, a) = s in
    let step : LineStep true p text q = (m, k, record { told = a.told; shown = a.shown; after = a.after; depth = a.depth; line = a.line; over = a.over; answered = a.answered; refused = a.refused }) in
    subst (λ c. ByteStep p c text q) (sym e) (step, n)

-- of the reply to the line that this line feed ends
pub put_at_feed : (p q : RunProgress) (b : ℕ) (old new : Option (List ℕ)) → b ≡ 10 → q ≡ record p { bytes = p.bytes + 1 } → PutsPart true q old new → Told old new (IsPartAt b p)
put_at_feed p q b old new e same h =
    let (part, put, is) = subst (λ (r : RunProgress). PutsPart true r old new) same h in
    (part, put, by part is)
  where
    by : (part : List ℕ) → (part ≡ []) ⊎ IsReplyFront true p part → IsPartAt b p part
    by part (inl none) = inl none
    by part (inr some) = inr (e, some)

-- one more byte
pub Feeds-more : (bs : List ℕ) (p q r : RunProgress) (s t : List ℕ) (b : ℕ) → Feeds p bs s q → ByteStep q b t r → Feeds p (bs ++ b ∷ []) (s ++ t) r
Feeds-more [] p q r s t b h k =
    let step = subst (λ m. ByteStep m b t r) h.1 k in
    (r, t, [], step, (refl, refl), rw (h.0, append-nil) refl)
Feeds-more (x ∷ bs) p q r s t b h k =
    let (mid, first, rest, step, tail, whole) = h in
    (mid, first, rest ++ t, step, Feeds-more bs mid q r rest t b tail k, rw (whole, append_assoc) refl)

-- and more bytes
pub Feeds-append : (bs cs : List ℕ) (p q r : RunProgress) (s t : List ℕ) → Feeds p bs s q → Feeds q cs t r → Feeds p (bs ++ cs) (s ++ t) r
Feeds-append [] cs p q r s t h k = rw h.0 (subst (λ m. Feeds m cs t r) h.1 k)
Feeds-append (x ∷ bs) cs p q r s t h k =
    let (mid, first, rest, step, tail, whole) = h in
    (mid, first, rest ++ t, step, Feeds-append bs cs mid q r rest t tail k, rw (whole, append_assoc) refl)

-- ---- the end

pub put_none : (p : RunProgress) (a b : Option (List ℕ)) → Keeps a b → PutsLast p a b
put_none p a b k = ([], Appends-none a b k, inl refl)

-- the last line was answered, and the writer has what it put
pub put_last : (p q : RunProgress) (a b c : Option (List ℕ)) → Told a b (λ text. LastStep p text q) → Keeps b c → PutsLast p a c
put_last p q a b c h k =
    let (text, put, step) = h in
    by (length p.line == 0) refl text put step
  where
    by : (t : Bool) → (length p.line == 0) ≡ t → (text : List ℕ) → Appends a b text → MatchBool t ((text ≡ []) × (q ≡ p)) (LineStep false p text q) → PutsLast p a c
    by true e text put step = (text, Appends-kept a b c text put k, inl step.0)
    by false e text put step =
        let (m, means, done) = step in
        let whole : take (length text) (reply_text p.depth p.state m) ≡ text = ap (take (length text)) (sym done.told) ∙ take_all (length text) text (omega arith) in
        (text, Appends-kept a b c text put k, inr (not_empty p.line e, (m, length text, means, sym whole)))

-- some of the reply to the line, which is not empty
pub put_some : (p : RunProgress) (a b : Option (List ℕ)) → (length p.line == 0) ≡ false → PutsPart false p a b → PutsLast p a b
put_some p a b some h =
    let (part, put, is) = h in
    (part, put, by part is)
  where
    by : (part : List ℕ) → (part ≡ []) ⊎ IsReplyFront false p part → (part ≡ []) ⊎ ((p.line ≢ []) × IsReplyFront false p part)
    by part (inl none) = inl none
    by part (inr front) = inr (not_empty p.line some, front)

-- there is no last line
pub last_none : (p : RunProgress) (a : Option (List ℕ)) → (length p.line == 0) ≡ true → Told a a (λ text. LastStep p text p)
last_none p a e = ([], Appends-nil a, subst (λ t. MatchBool t ((let none : List ℕ = [] in none ≡ []) × (p ≡ p)) (LineStep false p [] p)) (sym e) (refl, refl))

-- the last line is answered
pub last_line : (p q : RunProgress) (a b : Option (List ℕ)) → (length p.line == 0) ≡ false → Told a b (λ text. LineStep false p text q) → Told a b (λ text. LastStep p text q)
last_line p q a b e h =
    let (text, put, step) = h in
    (text, put, subst (λ t. MatchBool t ((text ≡ []) × (q ≡ p)) (LineStep false p text q)) (sym e) step)

pub finished : (p q : RunProgress) (a b c : Option (List ℕ)) (s : Summary) (d : Document) → Told a b (λ text. LastStep p text q) → Keeps b c → Counts q s → d ≡ q.state.doc → Told a c (λ text. Finishes p text s d)
finished p q a b c s d h k n l =
    let (text, put, step) = h in
    (text, Appends-kept a b c text put k, (q, step, n, l))

-- ---- after a fault

module _ {A E : Type 0} (r : Result A E) (a b : Option (List ℕ)) where
  pub on_part : (ended : Bool) (p : RunProgress) → PutsPart ended p a b → OnErr r (PutsPart ended p a b)
  on_part ended p h = OnErr-by r h

  pub on_feeds : (p : RunProgress) (bs : List ℕ) → FeedsPart a b p bs → OnErr r (FeedsPart a b p bs)
  on_feeds p bs h = OnErr-by r h

  pub on_last : (p : RunProgress) → PutsLast p a b → OnErr r (PutsLast p a b)
  on_last p h = OnErr-by r h
