-- `cmp` of two keys of look-ups is the order by kind.
use Rattle.std.proofs.Common.{refl}
use Rattle.ent_request.specs.KeyOrder.{KeysOrderByKind}
use Rattle.ent_request.specs.declared.key.ReadKey.TheVariants.{Root, Ref, Attr, CurrentDate, CurrentTime, CurrentDateTime}

pub by_kind : KeysOrderByKind
by_kind Root Root = refl
by_kind Root (Ref b) = refl
by_kind Root (Attr b) = refl
by_kind Root CurrentDate = refl
by_kind Root CurrentTime = refl
by_kind Root CurrentDateTime = refl
by_kind (Ref a) Root = refl
by_kind (Ref a) (Ref b) = refl
by_kind (Ref a) (Attr b) = refl
by_kind (Ref a) CurrentDate = refl
by_kind (Ref a) CurrentTime = refl
by_kind (Ref a) CurrentDateTime = refl
by_kind (Attr a) Root = refl
by_kind (Attr a) (Ref b) = refl
by_kind (Attr a) (Attr b) = refl
by_kind (Attr a) CurrentDate = refl
by_kind (Attr a) CurrentTime = refl
by_kind (Attr a) CurrentDateTime = refl
by_kind CurrentDate Root = refl
by_kind CurrentDate (Ref b) = refl
by_kind CurrentDate (Attr b) = refl
by_kind CurrentDate CurrentDate = refl
by_kind CurrentDate CurrentTime = refl
by_kind CurrentDate CurrentDateTime = refl
by_kind CurrentTime Root = refl
by_kind CurrentTime (Ref b) = refl
by_kind CurrentTime (Attr b) = refl
by_kind CurrentTime CurrentDate = refl
by_kind CurrentTime CurrentTime = refl
by_kind CurrentTime CurrentDateTime = refl
by_kind CurrentDateTime Root = refl
by_kind CurrentDateTime (Ref b) = refl
by_kind CurrentDateTime (Attr b) = refl
by_kind CurrentDateTime CurrentDate = refl
by_kind CurrentDateTime CurrentTime = refl
by_kind CurrentDateTime CurrentDateTime = refl
