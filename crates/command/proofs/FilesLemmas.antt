-- Results of the file commands, from those of the engines.
use Rattle.std.proofs.Common.{◌≡◌, ℕ, ◌⊎◌, inl, inr, Bool, true, false, List, [], ◌++◌}
use Rattle.std.proofs.Common.{Option, Some, None, Ok, Err, IfSome, refl, subst, sym, ◌∙◌, ap, arith, take}
use Rattle.std.specs.Prelude.{⊤}
use Rattle.std.proofs.Common.{drop, length, is_some, MatchResult, IfOk, IfErr, Result}
use Rattle.std.proofs.lemmas.List.{append-nil, drop_all}
use Rattle.std.proofs.Math.Seq.{take-append_seam}
use Rattle.std.specs.Io.KnownBytes.{Keeps, append_known}
use Rattle.octets.specs.declared.fault.Fault.{Fault}
use Rattle.octets.specs.declared.fault.Fault.TheVariants.{Read, Write, OutOfMemory}
use Rattle.aead.specs.declared.suite.Construction.TheVariants.{GcmSiv as ByGcmSiv}
use Rattle.aead.specs.Suites.{construction_of, is_one_pass}
use Rattle.aead.specs.Sealing.{Setting}
use Rattle.aead.specs.Ciphers.{Keyed, setting}
use Rattle.aead.specs.SealStream.{SealsStream, IfTextKnown}
use Rattle.aead.specs.SealSivStream.{SealsSivStream, SivCounts, IfBothKnown}
use Rattle.aead.specs.Verdict.{OpensStream, FailureCounts, IfAllKnown}
use Rattle.command.specs.declared.failure.Failure.{Failure}
use Rattle.command.specs.declared.failure.Failure.TheVariants.{Words, Fault as OfFault}
use Rattle.command.specs.declared.identity.Identity.{Identity}
use Rattle.command.specs.declared.words.Inputs.{Inputs}
use Rattle.command.specs.declared.words.FileRequest.{FileRequest}
use Rattle.command.specs.declared.words.FileCommand.{FileCommand}
use Rattle.command.specs.declared.words.FileCommand.TheVariants.{Seal, Open}
use Rattle.command.specs.Aead.{IsReady, IsCalled, CallFailed}
use Rattle.command.specs.Files.{Answer, Giving, SealsOnce, SealsTwice, OpensThrice, SealingBy, Sealing, Engine}
use Rattle.command.specs.Files.{HoldsAll, HoldsStart}
use Rattle.command.specs.Code.Engines.{OutletTakes}
use Rattle.command.specs.Files.{NoCall, FileDone, FileStopped, RefusesIfOne, RefusesOneFile, StopsLate}
use Rattle.command.specs.Files.{EngineOf, Wrote}
use Rattle.command.specs.Identities.{IsOneFile}
use Rattle.command.specs.Code.Engines.{EngineRan, Ran}
use Rattle.command.specs.NewFiles.{held}

-- what is sealed from one reading of a text, if its bytes are known
pub sealed_once : (a left taken taken' : Option (List ℕ)) (s : Setting) (read read' wrote wrote' : ℕ)
    (r : Answer) → IfSome a (λ x. left ≡ Some x)
    → IfTextKnown left taken taken' (λ x given. SealsStream s x given read read' wrote wrote' r)
    → IfSome a (λ x. OutletTakes taken taken' (λ given. SealsOnce s x given r))
sealed_once None left taken taken' s read read' wrote wrote' r e h = tt
sealed_once (Some x) left None taken' s read read' wrote wrote' r e h = tt
sealed_once (Some x) left (Some t) taken' s read read' wrote wrote' r e h =
    let P : Option (List ℕ) → Type 0 = λ l. IfTextKnown l (Some t) taken'
    (λ x given. SealsStream s x given read read' wrote wrote' r) in
    let k = subst P e h in
    (k.0, k.1, record { read = read; read' = read'; wrote = wrote; wrote' = wrote'; is = k.2 })

-- under a suite whose tag is over the ciphertext, sealing in one reading is sealing
pub sealing_once : (readings : ℕ → Option (List ℕ)) (giving : Giving) (s : Setting) (r : Answer)
    → is_one_pass (construction_of s.suite) ≡ true → SealingBy true readings giving s r
    → Sealing readings giving s r
sealing_once readings giving s r e h =
    let P : Bool → Type 0 = λ one. SealingBy one readings giving s r in subst P (sym e) h

-- under AES-GCM-SIV, sealing in two readings is sealing
pub sealing_twice : (readings : ℕ → Option (List ℕ)) (giving : Giving) (s : Setting) (r : Answer)
    → construction_of s.suite ≡ ByGcmSiv → SealingBy false readings giving s r → Sealing readings giving s r
sealing_twice readings giving s r e h =
    let P : Bool → Type 0 = λ one. SealingBy one readings giving s r in subst P (sym (ap is_one_pass e)) h

-- what is sealed from two readings of a text, if their bytes are known
pub sealed_twice : (a b left right taken taken' : Option (List ℕ)) (s : Setting) (before after : SivCounts)
    (r : Answer) → IfSome a (λ x. left ≡ Some x) → IfSome b (λ y. right ≡ Some y)
    → IfBothKnown left right taken taken' (λ x y given. SealsSivStream s x y given before after r)
    → IfSome a (λ x. IfSome b (λ y. OutletTakes taken taken' (λ given. SealsTwice s x y given r)))
sealed_twice None b left right taken taken' s before after r e f h = tt
sealed_twice (Some x) None left right taken taken' s before after r e f h = tt
sealed_twice (Some x) (Some y) left right None taken' s before after r e f h = tt
sealed_twice (Some x) (Some y) left right (Some t) taken' s before after r e f h =
    let P : Option (List ℕ) → Type 0 = λ l. IfBothKnown l right (Some t) taken'
    (λ x y given. SealsSivStream s x y given before after r) in
    let Q : Option (List ℕ) → Type 0 = λ l. IfBothKnown (Some x) l (Some t) taken'
    (λ x y given. SealsSivStream s x y given before after r) in
    let k = subst Q f (subst P e h) in
    (k.0, k.1, record { before = before; after = after; is = k.2 })

-- what is opened from three readings of sealed bytes, if their bytes are known
pub opened_thrice : (a b c measure verify write taken taken' : Option (List ℕ)) (s : Setting)
    (before after : FailureCounts) (r : Answer) → IfSome a (λ x. measure ≡ Some x)
    → IfSome b (λ y. verify ≡ Some y) → IfSome c (λ z. write ≡ Some z)
    → IfAllKnown measure verify write taken taken' (λ m v w given. OpensStream s m v w given before after r)
    → IfSome a (λ m. IfSome b
    (λ v. IfSome c (λ w. OutletTakes taken taken' (λ given. OpensThrice s m v w given r))))
opened_thrice None b c measure verify write taken taken' s before after r d e f h = tt
opened_thrice (Some x) None c measure verify write taken taken' s before after r d e f h = tt
opened_thrice (Some x) (Some y) None measure verify write taken taken' s before after r d e f h = tt
opened_thrice (Some x) (Some y) (Some z) measure verify write None taken' s before after r d e f h = tt
opened_thrice (Some x) (Some y) (Some z) measure verify write (Some t) taken' s before after r d e f h =
    let T : List ℕ → List ℕ → List ℕ → List ℕ → Type 0 = λ m v w given. OpensStream s m v w given before
    after r in
    let P : Option (List ℕ) → Type 0 = λ l. IfAllKnown l verify write (Some t) taken' T in
    let Q : Option (List ℕ) → Type 0 = λ l. IfAllKnown (Some x) l write (Some t) taken' T in
    let R : Option (List ℕ) → Type 0 = λ l. IfAllKnown (Some x) (Some y) l (Some t) taken' T in
    let k = subst R f (subst Q e (subst P d h)) in
    (k.0, k.1, record { before = before; after = after; is = k.2 })

-- dropping from no bytes leaves none
none_left : (w : ℕ) (p : List ℕ) → p ≡ [] → drop w p ≡ []
none_left w p e = rw e (drop_all {X = ℕ} w [] (omega arith))

-- bytes that stay the same are kept
keeps_same : (a b : Option (List ℕ)) → b ≡ a → Keeps a b
keeps_same None b e = tt
keeps_same (Some x) None e = absurd (cc)
keeps_same (Some x) (Some y) e = (cc)

-- once nothing is pending, a file holds all that was given
holds_all : (P : List ℕ → Type 0) (taken taken' held : Option (List ℕ)) (pending : List ℕ)
    → OutletTakes taken taken' P → Keeps taken' (append_known held pending) → pending ≡ [] → HoldsAll taken held P
holds_all P None taken' held pending t k e = tt
holds_all P (Some x) None held pending t k e = absurd t.1
holds_all P (Some x) (Some y) None pending t k e = absurd k
holds_all P (Some x) (Some y) (Some h) pending t k e =
    (t.0, ap Some (sym (append-nil h) ∙ ap (λ l. h ++ l) (sym e) ∙ k ∙ t.1), t.2)

-- a file holds a prefix of what was given
holds_start : (P : List ℕ → Type 0) (taken taken' held : Option (List ℕ)) (pending : List ℕ)
    → OutletTakes taken taken' P → Keeps taken' (append_known held pending) → HoldsStart taken held P
holds_start P None taken' held pending t k = tt
holds_start P (Some x) None held pending t k = absurd t.1
holds_start P (Some x) (Some y) None pending t k = absurd k
holds_start P (Some x) (Some y) (Some h) pending t k = (
  t.0,
  (h, refl, (length h, sym (take-append_seam h pending) ∙ ap (λ l. take (length h) l) (k ∙ t.1))),
  t.2,
)

-- a file that is made when it is needed holds a prefix of what was given
holds_start_in : {O : Type 0} (P : List ℕ → Type 0) (taken taken' blank : Option (List ℕ))
    (contents : O → Option (List ℕ)) (file : Option O) (pending : List ℕ) → OutletTakes taken taken' P
    → Keeps taken' (append_known (held blank contents file) pending)
    → HoldsStart taken (held taken contents file) P
holds_start_in P None taken' blank contents None pending t k = tt
holds_start_in P (Some x) taken' blank contents None pending t k =
    (t.0, (x, refl, (length x, sym (take-append_seam x t.0))), t.2)
holds_start_in P taken taken' blank contents (Some o) pending t k =
    holds_start P taken taken' (contents o) pending t k

-- a fact of one reading, if it is known, may be replaced by one that follows from it
map_one : (a : Option (List ℕ)) (X Y : List ℕ → Type 0) → ((x : List ℕ) → X x → Y x)
    → IfSome a (λ x. X x) → IfSome a (λ x. Y x)
map_one None X Y f h = tt
map_one (Some x) X Y f h = f x h

-- a fact of two readings, if they are known, may be replaced by one that follows from it
map_two : (a b : Option (List ℕ)) (X Y : List ℕ → List ℕ → Type 0) → ((x y : List ℕ) → X x y → Y x y)
    → IfSome a (λ x. IfSome b (λ y. X x y)) → IfSome a (λ x. IfSome b (λ y. Y x y))
map_two None b X Y f h = tt
map_two (Some x) None X Y f h = tt
map_two (Some x) (Some y) X Y f h = f x y h

-- a fact of three readings, if they are known, may be replaced by one that follows from it
map_three : (a b c : Option (List ℕ)) (X Y : List ℕ → List ℕ → List ℕ → Type 0)
    → ((x y z : List ℕ) → X x y z → Y x y z) → IfSome a (λ x. IfSome b (λ y. IfSome c (λ z. X x y z)))
    → IfSome a (λ x. IfSome b (λ y. IfSome c (λ z. Y x y z)))
map_three None b c X Y f h = tt
map_three (Some x) None c X Y f h = tt
map_three (Some x) (Some y) None X Y f h = tt
map_three (Some x) (Some y) (Some z) X Y f h = f x y z h

-- a relation of an engine that holds with one statement about the given bytes also holds with each weaker one
abbrev Weakens : (Giving → Setting → Answer → Type 0) → Type 1
Weakens engine = (G H : Giving) → ((P : List ℕ → Type 0) → G P → H P) → (s : Setting) (r : Answer)
    → engine G s r → engine H s r

-- sealing, in one reading or in two, also holds with each weaker statement about the given bytes
sealing_by_weakens : (one : Bool) (readings : ℕ → Option (List ℕ)) → Weakens (SealingBy one readings)
sealing_by_weakens true readings G H f s r h =
    map_one (readings 0) (λ a. G (λ given. SealsOnce s a given r)) (λ a. H (λ given. SealsOnce s a given r))
    (λ a. f (λ given. SealsOnce s a given r)) h
sealing_by_weakens false readings G H f s r h =
    map_two (readings 0) (readings 1) (λ a b. G (λ given. SealsTwice s a b given r))
    (λ a b. H (λ given. SealsTwice s a b given r)) (λ a b. f (λ given. SealsTwice s a b given r)) h

-- the engine of a file command also holds with each weaker statement about the given bytes
engine_weakens : (command : FileCommand) (readings : ℕ → Option (List ℕ))
    → Weakens (Engine command readings)
engine_weakens Seal readings G H f s r h =
    sealing_by_weakens (is_one_pass (construction_of s.suite)) readings G H f s r h
engine_weakens Open readings G H f s r h =
    map_three (readings 0) (readings 1) (readings 2) (λ m v w. G (λ given. OpensThrice s m v w given r))
    (λ m v w. H (λ given. OpensThrice s m v w given r)) (λ m v w. f (λ given. OpensThrice s m v w given r)) h

-- if the run of an engine succeeded, all readings were opened, and the engine succeeded
pub ran_ok : (engine : Giving → Setting → Answer → Type 0) (s : Setting) (taken taken' : Option (List ℕ))
    (same : Type 0) (u : Unit {0}) → EngineRan engine s taken taken' same (Ok u)
    → engine (OutletTakes taken taken') s (Ok u)
ran_ok engine s taken taken' same u (inl h) =
    let no : ⊥ = elim h.0 [ inl e ↦ (cc) | inr e ↦ (cc) ] in absurd no
ran_ok engine s taken taken' same u (inr h) = h

-- if the run of an engine failed on inputs that are ready, either no call was made or the engine returned the fault
pub ran_err : (engine : Giving → Setting → Answer → Type 0) (words : Inputs) (keyed : Keyed)
    (nonce aad body : List ℕ) (taken taken' : Option (List ℕ)) (same : Type 0) (f : Fault)
    → IsReady words keyed nonce aad body → EngineRan engine (setting keyed nonce aad) taken taken' same (Err f)
    → (NoCall words (OfFault f) × same) ⊎ CallFailed
    (λ s body e. engine (OutletTakes taken taken') s (Err e)) words (OfFault f)
ran_err engine words keyed nonce aad body taken taken' same f ready (inl h) =
    elim h.0 [
      | inl e ↦
          let p : OfFault f ≡ OfFault Read = (cc) in
          let called : IsCalled words (λ _ _. ⊤) =
          record { keyed = keyed; nonce = nonce; aad = aad; body = body; ready = ready; is = tt } in
          inl (inr (p, called), h.1)
      | inr e ↦
          let p : f ≡ OutOfMemory = (cc) in
          inl (inl (rw p tt), h.1)
    ]
ran_err engine words keyed nonce aad body taken taken' same f ready (inr h) = inr (record {
  fault = f;
  is = refl;
  call = record { keyed = keyed; nonce = nonce; aad = aad; body = body; ready = ready; is = h };
})

-- if P implies Q, a call for which P holds is one for which Q holds
map_call : (words : Inputs) (P Q : Setting → List ℕ → Type 0)
    → ((s : Setting) (body : List ℕ) → P s body → Q s body) → IsCalled words P → IsCalled words Q
map_call words P Q f h = record {
  keyed = h.keyed;
  nonce = h.nonce;
  aad = h.aad;
  body = h.body;
  ready = h.ready;
  is = f (setting h.keyed h.nonce h.aad) h.body h.is;
}

-- a file command whose engine did not run, or returned a fault, failed
pub exit_err : {O : Type 0} (command : FileCommand) (readings : ℕ → Option (List ℕ)) (words : Inputs)
    (taken blank : Option (List ℕ)) (contents : O → Option (List ℕ)) (file : Option O) (pending : List ℕ)
    (same same' : Type 0) (e : Failure) → (same → same')
    → Ran (Engine command readings) words taken (append_known (held blank contents file) pending) same (Err e)
    → FileStopped (Engine command readings) words taken (held taken contents file) same' e
exit_err command readings words taken blank contents file pending same same' e to (inl h) =
    inl (inr h.0, to h.1)
exit_err command readings words taken blank contents file pending same same' e to (inr h) =
    let given : Option (List ℕ) = append_known (held blank contents file) pending in
    inr (record {
      fault = h.fault;
      is = h.is;
      call = map_call words _ _ (λ s body k. inl (engine_weakens command readings (OutletTakes taken given)
          (HoldsStart taken (held taken contents file))
          (λ Q t. holds_start_in Q taken given blank contents file pending t (keeps_same given given refl))
          s (Err h.fault) k)) h.call;
    })

-- a file command whose last write failed, failed with `Write`
pub exit_write : {O : Type 0} (command : FileCommand) (readings : ℕ → Option (List ℕ)) (words : Inputs)
    (taken given blank : Option (List ℕ)) (contents : O → Option (List ℕ)) (file : Option O)
    (pending : List ℕ) (same : Type 0)
    → IsCalled words (λ s body. Engine command readings (OutletTakes taken given) s (Ok tt))
    → Keeps given (append_known (held blank contents file) pending)
    → FileStopped (Engine command readings) words taken (held taken contents file) same (OfFault Write)
exit_write command readings words taken given blank contents file pending same h k = inr (record {
  fault = Write;
  is = refl;
  call = map_call words _ _ (λ s body j. inr (
    refl,
    engine_weakens command readings (OutletTakes taken given)
        (HoldsStart taken (held taken contents file))
        (λ Q t. holds_start_in Q taken given blank contents file pending t k) s (Ok tt) j,
  )) h;
})

-- a file command whose engine succeeded has succeeded once the file is made and nothing is pending
pub exit_done : {O : Type 0} (command : FileCommand) (readings : ℕ → Option (List ℕ)) (words : Inputs)
    (taken given blank : Option (List ℕ)) (contents : O → Option (List ℕ)) (file : Option O) (w : ℕ)
    (pending : List ℕ)
    → IsCalled words (λ s body. Engine command readings (OutletTakes taken given) s (Ok tt))
    → Keeps given (append_known (held blank contents file) (drop w pending)) → pending ≡ []
    → is_some file ≡ true → FileDone (Engine command readings) words taken (held taken contents file)
exit_done command readings words taken given blank contents None w pending h k e made = absurd (cc)
exit_done command readings words taken given blank contents (Some o) w pending h k e made =
    map_call words _ _ (λ s body. engine_weakens command readings (OutletTakes taken given)
    (HoldsAll taken (contents o))
    (λ Q t. holds_all Q taken given (contents o) (drop w pending) t k (none_left w pending e)) s (Ok tt)) h

-- `Write` is a late fault of both commands
pub write_is_late : (command : FileCommand) (e : Failure) → e ≡ OfFault Write → StopsLate command e
write_is_late Seal e p = rw p (inr (inr (inr (inl refl))))
write_is_late Open e p = rw p (inr (inr (inl refl)))

-- a failed run of an engine is not a refusal with `Words`
pub ran_err_not_words : (engine : Giving → Setting → Answer → Type 0) (words : Inputs)
    (taken taken' : Option (List ℕ)) (same : Type 0) (e : Failure) (r : Result ℕ Failure) → r ≡ Err e
    → Ran engine words taken taken' same (Err e) → ¬ (r ≡ Err Words)
ran_err_not_words engine words taken taken' same e r is (inl h) p =
    let q : e ≡ Words = (cc) in
    let P : Failure → Type 0 = λ f. NoCall words f in
    elim (subst P q h.0) [ inl x ↦ absurd x | inr x ↦ let w : Words ≡ OfFault Read = x.0 in absurd (cc) ]
ran_err_not_words engine words taken taken' same e r is (inr h) p =
    let q : e ≡ OfFault h.fault = h.is in absurd (cc)

-- what is refused of the files that were compared, is refused of those that the paths are known to lead to
pub refuses : (a b : Option (Option Identity)) (one other : Option Identity) (r : Result ℕ Failure)
    → IfSome a (λ known. one ≡ known) → IfSome b (λ known. other ≡ known) → RefusesIfOne r one other
    → IfSome a (λ x. IfSome b (λ y. RefusesIfOne r x y))
refuses None b one other r p q h = tt
refuses (Some x) None one other r p q h = tt
refuses (Some x) (Some y) one other r p q h =
    let P : Option Identity → Type 0 = λ z. RefusesIfOne r z other in
    let Q : Option Identity → Type 0 = λ z. RefusesIfOne r x z in
    subst Q q (subst P p h)

-- of two files a failure that is not `Words` says nothing
pub refuses_two : (one other : Option Identity) (r : Result ℕ Failure) → ¬ IsOneFile one other
    → ¬ (r ≡ Err Words) → RefusesIfOne r one other
refuses_two one other r two not = (λ is. absurd (two is), λ e. absurd (not e))

-- a lack of memory may come before the files are compared
refuses_none : (a b : Option (Option Identity)) (r : Result ℕ Failure) → r ≡ Err (OfFault OutOfMemory)
    → IfSome a (λ x. IfSome b (λ y. RefusesIfOne r x y))
refuses_none None b r e = tt
refuses_none (Some x) None r e = tt
refuses_none (Some x) (Some y) r e = (λ is. inr e, λ p. absurd (cc))

-- a request that ran out of memory before its file was made
pub unwritten : {O : Type 0} (leads_to : List ℕ → Option (Option Identity))
    (contents : List ℕ → ℕ → Option (List ℕ)) (blank : List ℕ → Option (List ℕ))
    (taken : O → Option (List ℕ)) (request : FileRequest) (r : Result ℕ Failure)
    → r ≡ Err (OfFault OutOfMemory) → Wrote leads_to contents blank taken request r
unwritten leads_to contents blank taken request r e = rw e (record {
  file = None;
  two_files = refuses_none (leads_to request.input.now) (leads_to request.output.now) _ refl;
  done = tt;
  stopped = inl (inr (inl tt), refl);
  unmade = inr refl;
})

-- the result of a request whose file was not made before
pub wrote : {O : Type 0} (leads_to : List ℕ → Option (Option Identity))
    (contents : List ℕ → ℕ → Option (List ℕ)) (blank : List ℕ → Option (List ℕ))
    (taken : O → Option (List ℕ)) (request : FileRequest) (before : Option (List ℕ)) (file file' : Option O)
    (r : Result ℕ Failure) → before ≡ blank request.output.now → file ≡ None
    → MatchResult r
    (λ _. FileDone (EngineOf contents request) request.inputs before (held before taken file'))
    (FileStopped (EngineOf contents request) request.inputs before (held before taken file') (file' ≡ file))
    → IfOk r (λ _. is_some file' ≡ true) → IfOk r (λ status. status ≡ 0)
    → IfErr r (λ e. StopsLate request.command e ⊎ (file' ≡ file)) → RefusesOneFile leads_to request r
    → Wrote leads_to contents blank taken request r
wrote leads_to contents blank taken request before file file' (Ok n) start unmade answer made status same two =
    let P : Option (List ℕ) → Type 0 = λ b. FileDone (EngineOf contents request) request.inputs b
    (held b taken file') in
    record {
      file = file';
      two_files = two;
      done = (status, made, subst P start answer);
      stopped = tt;
      unmade = tt;
    }
wrote leads_to contents blank taken request before file file' (Err e) start unmade answer made status same two =
    let P : Option (List ℕ) → Type 0 = λ b. FileStopped (EngineOf contents request) request.inputs b
    (held b taken file') (file' ≡ file) e in
    record {
      file = file';
      two_files = two;
      done = tt;
      stopped = elim (subst P start answer) [ inl h ↦ inl (h.0, h.1 ∙ unmade) | inr h ↦ inr h ];
      unmade = elim same [ inl late ↦ inl late | inr p ↦ inr (p ∙ unmade) ];
    }
