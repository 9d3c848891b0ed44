use Rattle.std.proofs.Common.{refl, subst}
use Rattle.ent_request.specs.declared.readers.NamePlace.TheVariants.{Person, Action, Resource}
use Rattle.memo_bags.specs.proofs_only.Ready.{AreRows}
use Rattle.memo_bags.proofs.Growing.{starts_itself}
use Rattle.memo_bags.proofs.Learning.{rows_more}
use Rattle.memo_bags.proofs.findings.Findings.bag_of.Goals as goal

pub returns-in-Person-clause-keeps : goal.returns-in-Person-clause-keeps
returns-in-Person-clause-keeps g c =
    let looks = g.L.LookUps.looks c.args.scene.now.held.now in
    let questions = c.args.scene.now.questions.now in
    let more = rows_more looks questions questions c.args.self.now.bags c.find.new.bags (starts_itself questions questions refl) c.find.ensures.begins in
    record {
      ready = record {
        are = record {
          distinct = c.find.ensures.distinct;
          people = subst (λ p. AreRows looks questions c.find.new.bags p c.find.new.names) c.in-Person.is c.find.ensures.rows;
          actions = more Action c.args.self.now.actions c.requires.ready.are.actions;
          resources = more Resource c.args.self.now.resources c.requires.ready.are.resources;
        };
        at = record {
          person = c.find.ensures.at;
          action = c.requires.ready.at.action;
          resource = c.requires.ready.at.resource;
        };
      };
      begins = c.find.ensures.begins;
    }

pub returns-in-Action-clause-keeps : goal.returns-in-Action-clause-keeps
returns-in-Action-clause-keeps g c =
    let looks = g.L.LookUps.looks c.args.scene.now.held.now in
    let questions = c.args.scene.now.questions.now in
    let more = rows_more looks questions questions c.args.self.now.bags c.find-in-Action.new.bags (starts_itself questions questions refl) c.find-in-Action.ensures.begins in
    record {
      ready = record {
        are = record {
          distinct = c.find-in-Action.ensures.distinct;
          people = more Person c.args.self.now.people c.requires.ready.are.people;
          actions = subst (λ p. AreRows looks questions c.find-in-Action.new.bags p c.find-in-Action.new.names) c.in-Action.is c.find-in-Action.ensures.rows;
          resources = more Resource c.args.self.now.resources c.requires.ready.are.resources;
        };
        at = record {
          person = c.requires.ready.at.person;
          action = c.find-in-Action.ensures.at;
          resource = c.requires.ready.at.resource;
        };
      };
      begins = c.find-in-Action.ensures.begins;
    }

pub returns-in-Resource-clause-keeps : goal.returns-in-Resource-clause-keeps
returns-in-Resource-clause-keeps g c =
    let looks = g.L.LookUps.looks c.args.scene.now.held.now in
    let questions = c.args.scene.now.questions.now in
    let more = rows_more looks questions questions c.args.self.now.bags c.find-in-Resource.new.bags (starts_itself questions questions refl) c.find-in-Resource.ensures.begins in
    record {
      ready = record {
        are = record {
          distinct = c.find-in-Resource.ensures.distinct;
          people = more Person c.args.self.now.people c.requires.ready.are.people;
          actions = more Action c.args.self.now.actions c.requires.ready.are.actions;
          resources = subst (λ p. AreRows looks questions c.find-in-Resource.new.bags p c.find-in-Resource.new.names) c.in-Resource.is c.find-in-Resource.ensures.rows;
        };
        at = record {
          person = c.requires.ready.at.person;
          action = c.requires.ready.at.action;
          resource = c.find-in-Resource.ensures.at;
        };
      };
      begins = c.find-in-Resource.ensures.begins;
    }
