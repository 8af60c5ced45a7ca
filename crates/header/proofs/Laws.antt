-- The law of headers: what is accepted is written so, and what is written so is accepted.
use Rattle.std.proofs.Common.{◌≡◌, ℕ, ◌<◌, ◌≤◌, true, eqb, leb, List, ◌++◌, length, take, drop, Some, None, Ok, Option, sym, refl, ap, ◌∙◌, subst, subst₂, arith, length-append}
use Rattle.packed.specs.Bits.{whole}
use Rattle.refusal.specs.declared.causes.Cause.TheVariants.{HeaderCut, HeaderSizeDiffers, NeitherImageNorUpdate, BodySizeMisfit, NameMissing, UpdateWithoutEffect}
use Rattle.std.proofs.ByRecursion.{All-take, All-drop}
use Rattle.std.proofs.lemmas.List.{take-append-drop, length-take-le, take_at, drop_at}
use Rattle.std.proofs.lemmas.Bool.{eqb-true, eq-eqb, leb-true, le-leb}
use Rattle.std.specs.Option.{ok_or}
use Rattle.std.specs.List.{flat_map, AllByRecursion}
use Rattle.header.specs.Cores.{core_in, kind_of, body_fits}
use Rattle.header.specs.Finds.{refusal_at, FoundRecord}
use Rattle.header.specs.Names.{NameRecord}
use Rattle.header.specs.Headers.{HeaderRecord, demand, nothing, params_of, effective, header_with, read_with, header_of}
use Rattle.header.specs.Written.{Param, written, given, SaysName, Describes, HeaderLaw}
use Rattle.header.specs.declared.kinds.Core.{Core}
use Rattle.header.specs.declared.kinds.Kind.{Kind}
use Rattle.header.specs.declared.parts.Meaning.TheVariants.{ContentName}
use Rattle.header.proofs.Runs.{Adds, Finds, adds_given, given_adds, sound, full}
use Rattle.header.proofs.Chains.{then_go, then_ok, demanded, met, was_some, some_ok}
use Rattle.header.proofs.Accepted.{kind_allowed, allowed_kind, allowed_body, effect_from, effect_to, core_below, core_whole, core_narrow, whole_core}

-- what a header that was accepted has passed
pub record Passed (c : Core) (size : ℕ) (xs : List ℕ) (slot : ℕ) (h : HeaderRecord) : Type 0 where
  pub kind : Kind
  pub name : NameRecord
  pub found : FoundRecord
  pub sized : c.header_size ≡ size
  pub kind_is : kind_of c.content_type c.subtype ≡ Some kind
  pub fits : body_fits kind c.body_size slot ≡ true
  pub ran : params_of kind xs ≡ Ok found
  pub named : found.name ≡ Some name
  pub effect : effective kind found ≡ true
  pub is : header_with c kind name found ≡ h

pub passed_from : (c : Core) (size : ℕ) (xs : List ℕ) (slot : ℕ) (h : HeaderRecord) → read_with c size xs slot ≡ Ok h → Passed c size xs slot h
passed_from c size xs slot h e =
    let (u, s, e₁) = then_ok (demand (eqb c.header_size size) HeaderSizeDiffers) _ h e in
    let (k, t, e₂) = then_ok (ok_or (kind_of c.content_type c.subtype) (refusal_at NeitherImageNorUpdate 0)) _ h e₁ in
    let (v, b, e₃) = then_ok (demand (body_fits k c.body_size slot) BodySizeMisfit) _ h e₂ in
    let (f, r, e₄) = then_ok (params_of k xs) _ h e₃ in
    let (n, m, e₅) = then_ok (ok_or f.name (refusal_at NameMissing 0)) _ h e₄ in
    let (w, x, e₆) = then_ok (demand (effective k f) UpdateWithoutEffect) _ h e₅ in
    record {
      kind = k;
      name = n;
      found = f;
      sized = eqb-true _ _ (demanded _ HeaderSizeDiffers u s);
      kind_is = was_some _ _ k t;
      fits = demanded _ BodySizeMisfit v b;
      ran = r;
      named = was_some _ _ n m;
      effect = demanded _ UpdateWithoutEffect w x;
      is = cc;
    }

pub passed_to : (c : Core) (size : ℕ) (xs : List ℕ) (slot : ℕ) (h : HeaderRecord) → Passed c size xs slot h → read_with c size xs slot ≡ Ok h
passed_to c size xs slot h p =
    then_go _ _ _ _ (met _ HeaderSizeDiffers (eq-eqb _ _ p.sized)) (then_go _ _ _ _ (some_ok _ _ p.kind p.kind_is) (then_go _ _ _ _ (met _ BodySizeMisfit p.fits) (then_go _ _ _ _ p.ran (then_go _ _ _ _ (some_ok _ _ p.name p.named) (then_go _ _ _ _ (met _ UpdateWithoutEffect p.effect) (ap Ok p.is))))))

-- the core, where there is one
pub cored : (xs : List ℕ) (slot : ℕ) (h : HeaderRecord) → header_of xs slot ≡ Ok h → (7 ≤ length xs) × Passed (core_in (whole (take 7 xs))) (length xs) (drop 7 xs) slot h
unfolding header_of
cored xs slot h e =
    let (u, l, r) = then_ok (demand (leb 7 (length xs)) HeaderCut) _ h e in
    (leb-true 7 (length xs) (demanded _ HeaderCut u l), passed_from (core_in (whole (take 7 xs))) (length xs) (drop 7 xs) slot h r)

core_to : (xs : List ℕ) (slot : ℕ) (h : HeaderRecord) → 7 ≤ length xs → Passed (core_in (whole (take 7 xs))) (length xs) (drop 7 xs) slot h → header_of xs slot ≡ Ok h
unfolding header_of
core_to xs slot h l p =
    then_go _ _ _ _ (met _ HeaderCut (le-leb 7 (length xs) l)) (passed_to (core_in (whole (take 7 xs))) (length xs) (drop 7 xs) slot h p)

-- what is accepted is written so
written_so : (xs : List ℕ) (slot : ℕ) (h : HeaderRecord) → AllByRecursion (λ b. b < 256) xs → header_of xs slot ≡ Ok h → (ps : List Param) × Describes slot xs h ps
written_so xs slot h bs e =
    let (l, p) = cored xs slot h e in
    let w = whole (take 7 xs) in
    let seven = length-take-le 7 xs l in
    let (ps, proper, is, finds) = sound (length (drop 7 xs)) p.kind 7 (drop 7 xs) nothing p.found (All-drop (λ b. b < 256) 7 xs bs) (omega arith) p.ran in (
      ps,
      subst (λ (g : HeaderRecord). Describes slot xs g ps) p.is (record {
        core = take 7 xs;
        seven = seven;
        bytes = sym (take-append-drop 7 xs) ∙ ap (λ (ys : List ℕ). take 7 xs ++ ys) (sym is);
        packed = core_whole w (core_below (take 7 xs) seven (All-take (λ b. b < 256) 7 xs bs));
        narrow = core_narrow w;
        sized = p.sized;
        allowed = kind_allowed p.kind (core_in w).content_type (core_in w).subtype (core_in w).body_size slot p.kind_is p.fits;
        proper = proper;
        expire = adds_given _ _ _ finds.expire;
        trigger = adds_given _ _ _ finds.trigger;
        version = adds_given _ _ _ finds.version;
        name = adds_given SaysName (given p.kind ContentName ps) (Some p.name) (subst (λ (o : Option NameRecord). Adds SaysName None (given p.kind ContentName ps) o) p.named finds.name);
        category = adds_given _ _ _ finds.category;
        effect = effect_from p.kind p.found p.effect;
      }),
    )

-- what is written so is accepted
accepted_so : (xs : List ℕ) (slot : ℕ) (h : HeaderRecord) (ps : List Param) → Describes slot xs h ps → header_of xs slot ≡ Ok h
accepted_so xs slot h ps d =
    let front : take 7 xs ≡ d.core = ap (take 7) d.bytes ∙ take_at d.core (flat_map written ps) 7 d.seven in
    let rest : drop 7 xs ≡ flat_map written ps = ap (drop 7) d.bytes ∙ drop_at d.core (flat_map written ps) 7 d.seven in
    let long : 7 ≤ length xs = omega (arith, ap length d.bytes, length-append d.core (flat_map written ps), d.seven) in
    let c : Core = record { body_size = h.body_size; header_size = h.header_size; content_type = h.content_type; subtype = h.subtype } in
    let is : core_in (whole (take 7 xs)) ≡ c = ap (λ (ys : List ℕ). core_in (whole ys)) front ∙ whole_core (whole d.core) h.body_size h.header_size h.content_type h.subtype d.packed d.narrow in
    let f : FoundRecord = record { expire = h.expire; trigger = h.trigger; version = h.version; name = Some h.name; category = h.category } in
    let finds : Finds (λ m. given h.kind m ps) nothing f = record { expire = given_adds _ _ _ d.expire; trigger = given_adds _ _ _ d.trigger; version = given_adds _ _ _ d.version; name = given_adds _ _ _ d.name; category = given_adds _ _ _ d.category } in
    let p : Passed c (length xs) (flat_map written ps) slot h = record {
      kind = h.kind;
      name = h.name;
      found = f;
      sized = d.sized;
      kind_is = allowed_kind h.kind h.content_type h.subtype h.body_size slot d.allowed;
      fits = allowed_body h.kind h.content_type h.subtype h.body_size slot d.allowed;
      ran = full ps h.kind 7 nothing f d.proper finds;
      named = refl;
      effect = effect_to h.kind f d.effect;
      is = refl;
    } in
    core_to xs slot h long (subst₂ (λ (a : Core) (ys : List ℕ). Passed a (length xs) ys slot h) (sym is) (sym rest) p)

-- a header is accepted, with its values, exactly where its bytes are written so
pub header_law : (xs : List ℕ) (slot : ℕ) → AllByRecursion (λ b. b < 256) xs → HeaderLaw xs slot (header_of xs slot)
header_law xs slot bs h = (written_so xs slot h bs, accepted_so xs slot h)
