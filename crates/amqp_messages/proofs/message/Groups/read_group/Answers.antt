use Rattle.std.proofs.Common.{refl, rules}
use Rattle.amqp_messages.specs.Messages.{fields_in}
use Rattle.amqp_messages.specs.laws.SectionCodes.{has_ahead}
use Rattle.amqp_messages.proofs.GroupSteps.{put_code, body_answer}
use Rattle.amqp_messages.proofs.message.Groups.read_group.Goals as goal

pub returns-in-112-clause-read : goal.returns-in-112-clause-read
returns-in-112-clause-read g c tells next =
    put_code g.B.FromBody.made 0 0x70 refl c.args.code c.in-112.is (fields_in c.args.self.now) _ _ _ _
    (c.put_section.ensures.read tells, refl)

pub returns-in-113-clause-read : goal.returns-in-113-clause-read
returns-in-113-clause-read g c tells next =
    put_code g.B.FromBody.made 1 0x71 (refl, refl) c.args.code c.in-113.is (fields_in c.args.self.now) _ _ _ _
    (refl, (c.put_section-in-113.ensures.read tells, refl))

pub returns-in-114-clause-read : goal.returns-in-114-clause-read
returns-in-114-clause-read g c tells next =
    put_code g.B.FromBody.made 2 0x72 (refl, (refl, refl)) c.args.code c.in-114.is (fields_in c.args.self.now) _ _ _ _
    (refl, (refl, (c.put_section-in-114.ensures.read tells, refl)))

pub returns-in-115-clause-read : goal.returns-in-115-clause-read
returns-in-115-clause-read g c tells next =
    put_code g.B.FromBody.made 3 0x73 (refl, (refl, (refl, refl))) c.args.code c.in-115.is (fields_in c.args.self.now) _ _ _ _
    (refl, (refl, (refl, (c.put_section-in-115.ensures.read tells, refl))))

pub returns-in-116-clause-read : goal.returns-in-116-clause-read
returns-in-116-clause-read g c tells next =
    put_code g.B.FromBody.made 4 0x74 (refl, (refl, (refl, (refl, refl)))) c.args.code c.in-116.is (fields_in c.args.self.now) _ _ _ _
    (refl, (refl, (refl, (refl, (c.put_section-in-116.ensures.read tells, refl)))))

pub returns-in-120-clause-read : goal.returns-in-120-clause-read
returns-in-120-clause-read g c tells next =
    put_code g.B.FromBody.made 6 0x78 (refl, (refl, (refl, (refl, (refl, (refl, refl)))))) c.args.code c.in-120.is (fields_in c.args.self.now) _ _ _ _
    (refl, (refl, (refl, (refl, (refl, (refl, (c.put_section-in-120.ensures.read tells, refl)))))))

pub returns-in_default-clause-read : goal.returns-in_default-clause-read
returns-in_default-clause-read g c tells next =
    body_answer g.B.FromBody.made c.args.code (has_ahead _ _ next.1) (search rules) (search rules) (search rules) (search rules) (search rules) (search rules)
    (fields_in c.args.self.now) _ _ _ _ (refl, (refl, (refl, (refl, (refl, (c.put_body.ensures.read tells next, refl))))))
